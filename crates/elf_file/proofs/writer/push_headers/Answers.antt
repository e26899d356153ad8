use Rattle.std.proofs.Common.{◌++◌, ◌∙◌, ap, sym}
use Rattle.std.specs.List.{flat_map}
use Rattle.elf_file.specs.Image.{sections_of, text_at}
use Rattle.elf_file.specs.Header.{elf_header, program_header}
use Rattle.elf_file.specs.Written.{text_header, fixed_headers, data_header}
use Rattle.elf_file.proofs.Appends.{first, then_more}
use Rattle.elf_file.proofs.WrittenLemmas.{headers-sections}
use Rattle.elf_file.proofs.writer.push_headers.Goals as goal

pub returns : goal.returns
returns c =
    let i = sections_of c.args.image.now in
    let f1 = first (elf_header text_at _) (c.in_ok-push_elf_header.ensures ∙ ap (λ n. c.args.file.now.items ++ elf_header text_at n) c.header_count.ensures) in
    let f2 = then_more (program_header (text_header i)) f1 (c.in_ok-push_program_header.ensures ∙ ap (λ h. c.push_elf_header.new.file.items ++ program_header h) c.text_header.ensures) in
    let f3 = then_more (flat_map program_header (fixed_headers i)) f2 c.in_ok-push_fixed_header.ensures in
    let f4 = then_more (program_header (data_header i)) f3 (c.in_ok-push_program_header-2.ensures ∙ ap (λ h. c.push_fixed_header.new.file.items ++ program_header h) c.data_header.ensures) in
    f4.is ∙ ap (λ l. c.args.file.now.items ++ l) (sym (headers-sections i))
