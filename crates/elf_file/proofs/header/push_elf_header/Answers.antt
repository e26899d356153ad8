use Rattle.elf_file.specs.Header.{elf_header, ident, half, word}
use Rattle.elf_file.proofs.Appends.{first, then_more}
use Rattle.elf_file.proofs.header.push_elf_header.Goals as goal

pub returns : goal.returns
unfolding elf_header
returns c =
    let f1 = first ident c.in_ok-extend_from_slice.ensures.items in
    let f2 = then_more (half 2) f1 c.in_ok-push_half.ensures in
    let f3 = then_more (half 243) f2 c.in_ok-push_half-2.ensures in
    let f4 = then_more (word 1) f3 c.in_ok-push_word.ensures in
    let f5 = then_more (word c.args.entry) f4 c.in_ok-push_word-2.ensures in
    let f6 = then_more (word 52) f5 c.in_ok-push_word-3.ensures in
    let f7 = then_more (word 0) f6 c.in_ok-push_word-4.ensures in
    let f8 = then_more (word 0) f7 c.in_ok-push_word-5.ensures in
    let f9 = then_more (half 52) f8 c.in_ok-push_half-3.ensures in
    let f10 = then_more (half 32) f9 c.in_ok-push_half-4.ensures in
    let f11 = then_more (half c.args.count) f10 c.in_ok-push_half-5.ensures in
    let f12 = then_more (half 0) f11 c.in_ok-push_half-6.ensures in
    let f13 = then_more (half 0) f12 c.in_ok-push_half-7.ensures in
    let f14 = then_more (half 0) f13 c.in_ok-push_half-8.ensures in
    f14.is
