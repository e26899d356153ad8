use Rattle.std.proofs.Common.{◌≡◌, ℕ, ◌+◌, ◌<◌, true}
use Rattle.rv_machine.specs.Blocks.{allowance_of}
use Rattle.rv_machine.specs.Memory.{has_flag}
use Rattle.rv_machine.proofs.memory.Memory.all_allow.Given as goal

abbrev pub invariant-loop-i : goal.invariant-loop-i
invariant-loop-i l = (j : ℕ) → j < l.i → has_flag (allowance_of l.self (l.address + j)) l.flag ≡ true
