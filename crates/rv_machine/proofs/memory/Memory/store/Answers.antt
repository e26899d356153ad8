use Rattle.std.proofs.Common.{◌≡◌, ℕ, ◌-◌, ◌<◌, ◌≤◌, true, List, length, drop, get_or, sym, ap, ◌∙◌, arith, length-drop}
use Rattle.rv_machine.specs.declared.block.Block.{Block}
use Rattle.rv_machine.specs.declared.memory.Memory.{Memory}
use Rattle.rv_machine.specs.Block.{segment_of}
use Rattle.rv_machine.specs.Blocks.{IsBlockAt, allowance_of}
use Rattle.rv_machine.specs.Memory.{has_flag, allowed, holds}
use Rattle.rv_machine.proofs.Found.{block_of, outside_of}
use Rattle.rv_machine.proofs.HeldBlocks.{outside-allowed, block-bad, block-allowed}
use Rattle.rv_machine.proofs.memory.Memory.store.Goals as goal

pub returns-in_default-clause-done : goal.returns-in_default-clause-done
returns-in_default-clause-done c =
    sym (outside-allowed c.args.self.now 2 c.args.address c.args.width (omega arith) (outside_of c.args.self.now c.args.address c.in_default.ensures))

pub returns-then-not-has_flag-clause-done : goal.returns-then-not-has_flag-clause-done
returns-then-not-has_flag-clause-done c =
    let b : Block = c.index-block.result.now in
    let part : IsBlockAt c.args.self.now c.args.address b =
    block_of c.args.self.now c.args.address c.in-Some.k b c.args.self.now.apart c.in-Some.ensures.0 (sym c.index-block.ensures)
    (rw c.index-block.ensures (c.in-Some.ensures.1 b)) in
    sym (block-bad c.args.self.now c.args.address b part 2 c.args.width (omega arith) (sym c.if-not-has_flag.ensures))

-- the bytes of the access are of one segment, which may be written
held : (m : Memory) (address width k : ℕ) (b : Block) (rest : List ℕ) → k < length m.blocks.items → get_or m.blocks.items k b ≡ b
    → holds (segment_of b) address ≡ true → rest ≡ drop (address - b.at) b.bytes.items → width ≤ length rest → has_flag b.flags 2 ≡ true
    → allowed (allowance_of m) 2 address width ≡ true
held m address width k b rest within is h e long good =
    let part : IsBlockAt m address b = block_of m address k b m.apart within is h in
    let from : length rest ≡ length b.bytes.items - (address - b.at) = ap length e ∙ length-drop (address - b.at) b.bytes.items in
    block-allowed m address b part 2 width (omega (arith, from, part.above, part.below, b.bytes.ok)) good

pub write_in-requires-clause-allowed : goal.write_in-requires-clause-allowed
write_in-requires-clause-allowed c =
    let b : Block = c.index-block.result.now in
    held c.args.self.now c.args.address c.args.width c.in-Some.k b c.bytes_from.result.now c.in-Some.ensures.0 (sym c.index-block.ensures)
    (rw c.index-block.ensures (c.in-Some.ensures.1 b)) c.bytes_from.ensures (omega arith) (sym c.if-not-has_flag.ensures)

pub returns-clause-done : goal.returns-clause-done
returns-clause-done c =
    let b : Block = c.index-block.result.now in
    sym (held c.args.self.now c.args.address c.args.width c.in-Some.k b c.bytes_from.result.now c.in-Some.ensures.0 (sym c.index-block.ensures)
    (rw c.index-block.ensures (c.in-Some.ensures.1 b)) c.bytes_from.ensures (omega arith) (sym c.if-not-has_flag.ensures))
