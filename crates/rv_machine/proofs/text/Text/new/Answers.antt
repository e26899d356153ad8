use Rattle.std.proofs.Common.{◌≡◌, ℕ, ◌%◌, ◌<◌, true, false, List, length, map, get_or, Result, Ok, Err, sym}
use Rattle.std.specs.Prelude.{AllPairs, IfOk}
use Rattle.elf_file.specs.Segments.{AreApart}
use Rattle.rv_machine.specs.declared.block.Block.{Block}
use Rattle.rv_machine.specs.declared.text.Text.{Text}
use Rattle.rv_machine.specs.Block.{segment_of, outline_of}
use Rattle.rv_machine.specs.Memory.{has_flag, memory_of, flags_of, to_write, to_execute}
use Rattle.rv_machine.specs.Text.{AreDecoded, IsText}
use Rattle.rv_machine.proofs.Decoded.{text_of}
use Rattle.rv_machine.proofs.text.Text.new.Goals as goal

result_is : {E : Type 0} (xs : List Block) (k : ℕ) (b : Block) (r : Result Text E) → AllPairs AreApart (map outline_of xs) → k < length xs → get_or xs k b ≡ b
    → has_flag b.flags to_execute ≡ true → has_flag b.flags to_write ≡ false → b.at % 4 ≡ 0
    → IfOk r (λ text. text.at ≡ b.at) → IfOk r (λ text. AreDecoded b.bytes.items text.words.items)
    → IfOk r (λ text. IsText (flags_of (map segment_of xs)) (memory_of (map segment_of xs)) text.at text.words.items)
result_is xs k b (Ok text) apart within is executable fixed aligned e words =
    text_of xs k b apart within is text.at text.words.items executable fixed aligned e words
result_is xs k b (Err error) apart within is executable fixed aligned e words = tt

pub returns-then-block-eq0 : goal.returns-then-block-eq0
returns-then-block-eq0 c =
    result_is c.args.blocks.now c.loop-block.block-index c.block-item.result c.of_block.result c.requires c.loop-block-test.true (sym c.block-item.is)
    (sym c.if-has_flag.ensures) (sym c.if-not-has_flag.ensures) c.if-block-eq0.true c.of_block.ensures.at c.of_block.ensures.words
