use Rattle.std.proofs.Common.{◌≡◌, List, map, sym, ap, ◌∙◌, subst, arith}
use Rattle.std.specs.Prelude.{AllPairs}
use Rattle.elf_file.specs.ImageView.{executable_of}
use Rattle.elf_file.specs.Segments as view
use Rattle.elf_file.specs.Segments.{AreApart}
use Rattle.rv_machine.specs.declared.block.Block.{Block}
use Rattle.rv_machine.specs.Block.{segment_of, outline_of, padded}
use Rattle.rv_machine.specs.Memory.{memory_of, flags_of}
use Rattle.rv_machine.specs.Text.{IsText}
use Rattle.rv_machine.proofs.Loads.{block_more, blocks_all, apart-loaded, memory-padded, flags-padded}
use Rattle.rv_machine.proofs.memory.Memory.new.Goals as goal

pub loop-k-preserved : goal.loop-k-preserved
loop-k-preserved c =
    block_more c.loop-k.blocks.items c.push.new.self.items c.in_ok-new.field-0 (executable_of c.args.view.now).segments c.loop-k.k
    (view.segment_of c.segment.result) c.in_ok-push.ensures.items c.loop-k.invariant c.in_ok-new.ensures (omega (arith, c.count-k-end.ensures.value)) c.segment.ensures.value

pub new-requires-2 : goal.new-requires-2
new-requires-2 c =
    let all : map segment_of c.loop-k.blocks.items ≡ map padded (executable_of c.args.view.now).segments =
    blocks_all c.loop-k.blocks.items (executable_of c.args.view.now).segments c.loop-k.k c.count-k-end.result c.loop-k.invariant c.count-k-end.ensures.value (omega arith) in
    let P : List Block → Type 0 = λ xs. AllPairs AreApart (map outline_of xs) in
    subst P (sym c.deref.ensures.value)
    (apart-loaded c.loop-k.blocks.items (executable_of c.args.view.now).segments all c.count-k-end.ensures.sound.apart)

pub invariant_of-result : goal.invariant_of-result
invariant_of-result c =
    let all : map segment_of c.loop-k.blocks.items ≡ map padded (executable_of c.args.view.now).segments =
    blocks_all c.loop-k.blocks.items (executable_of c.args.view.now).segments c.loop-k.k c.count-k-end.result c.loop-k.invariant c.count-k-end.ensures.value (omega arith) in
    record {
      apart = apart-loaded c.loop-k.blocks.items (executable_of c.args.view.now).segments all c.count-k-end.ensures.sound.apart;
      decoded =
          let P : List Block → Type 0 = λ xs. IsText (flags_of (map segment_of xs)) (memory_of (map segment_of xs)) c.in_ok-text.text.at c.in_ok-text.text.words.items in
          subst P c.deref.ensures.value c.in_ok-text.ensures;
    }

pub returns-clause-bytes : goal.returns-clause-bytes
returns-clause-bytes c =
    let all : map segment_of c.loop-k.blocks.items ≡ map padded (executable_of c.args.view.now).segments =
    blocks_all c.loop-k.blocks.items (executable_of c.args.view.now).segments c.loop-k.k c.count-k-end.result c.loop-k.invariant c.count-k-end.ensures.value (omega arith) in
    ap memory_of all ∙ memory-padded (executable_of c.args.view.now).segments

pub returns-clause-flags : goal.returns-clause-flags
returns-clause-flags c =
    let all : map segment_of c.loop-k.blocks.items ≡ map padded (executable_of c.args.view.now).segments =
    blocks_all c.loop-k.blocks.items (executable_of c.args.view.now).segments c.loop-k.k c.count-k-end.result c.loop-k.invariant c.count-k-end.ensures.value (omega arith) in
    ap flags_of all ∙ flags-padded (executable_of c.args.view.now).segments
