use Rattle.std.proofs.Common.{◌∙◌, ◌++◌, ap, refl}
use Rattle.elf_file.specs.Image.{sections_of}
use Rattle.elf_file.specs.Written.{headers}
use Rattle.elf_file.proofs.WrittenLemmas.{file-grown, filled}
use Rattle.elf_file.proofs.writer.write.Goals as goal

pub returns : goal.returns
returns c =
    file-grown (sections_of c.args.image.now) _ _ _ _ _ _ _
    (c.in_ok-push_headers.ensures ∙ ap (λ f. f ++ headers (sections_of c.args.image.now)) c.in_ok-file.ensures.items)
    (filled _ _ 4096 4096 _ refl c.push_headers.new.file.ok.0 c.in_ok-resize.ensures.items)
    (c.in_ok-extend_from_slice.ensures.items ∙ ap (λ f. c.resize.new.self.items ++ f) c.deref.ensures.value)
    (filled _ _ _ _ _ c.fixed_offset-fixed_offset.ensures c.extend_from_slice.new.self.ok.0 c.in_ok-resize-2.ensures.items)
    (c.in_ok-extend_from_slice-2.ensures.items ∙ ap (λ f. c.resize-2.new.self.items ++ f) c.deref-2.ensures.value)
    (filled _ _ _ _ _ c.data_offset-data_offset.ensures c.extend_from_slice-2.new.self.ok.0 c.in_ok-resize-3.ensures.items)
    (c.in_ok-extend_from_slice-3.ensures.items ∙ ap (λ f. c.resize-3.new.self.items ++ f) c.deref-3.ensures.value)
