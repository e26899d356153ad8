use Rattle.std.proofs.Common.{◌≡◌, ℕ, ◌<◌, ◌≤◌, false, length, get_or}
use Rattle.rv_machine.specs.Block.{segment_of}
use Rattle.rv_machine.specs.Memory.{holds}
use Rattle.rv_machine.specs.declared.block.Block.{Block}
use Rattle.rv_machine.proofs.memory.Memory.block_at.Given as goal

abbrev pub invariant-loop-k : goal.invariant-loop-k
invariant-loop-k l =
    (j : ℕ) (d : Block) → l.k ≤ j → j < length l.self.blocks.items → holds (segment_of (get_or l.self.blocks.items j d)) l.address ≡ false
