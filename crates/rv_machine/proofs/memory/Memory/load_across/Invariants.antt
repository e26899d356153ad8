use Rattle.std.proofs.Common.{◌≡◌, ℕ, ◌+◌, ◌<◌, length, get_or}
use Rattle.rv_machine.specs.Blocks.{bytes_of}
use Rattle.rv_machine.proofs.memory.Memory.load_across.Given as goal

abbrev pub invariant-loop-i : goal.invariant-loop-i
invariant-loop-i l = record {
  long : length l.bytes ≡ 4;
  same : (j : ℕ) → j < l.i → bytes_of l.self (l.address + j) ≡ get_or l.bytes j 0;
}
