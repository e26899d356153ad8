use Rattle.elf_file.specs.Header.{program_header, word}
use Rattle.elf_file.proofs.Appends.{first, then_more}
use Rattle.elf_file.proofs.header.push_program_header.Goals as goal

pub returns : goal.returns
unfolding program_header
returns c =
    let f1 = first (word c.args.header.now.kind) c.in_ok-push_word.ensures in
    let f2 = then_more (word c.args.header.now.offset) f1 c.in_ok-push_word-2.ensures in
    let f3 = then_more (word c.args.header.now.at) f2 c.in_ok-push_word-3.ensures in
    let f4 = then_more (word c.args.header.now.at) f3 c.in_ok-push_word-4.ensures in
    let f5 = then_more (word c.args.header.now.file_size) f4 c.in_ok-push_word-5.ensures in
    let f6 = then_more (word c.args.header.now.memory_size) f5 c.in_ok-push_word-6.ensures in
    let f7 = then_more (word c.args.header.now.flags) f6 c.in_ok-push_word-7.ensures in
    let f8 = then_more (word 4096) f7 c.in_ok-push_word-8.ensures in
    f8.is
