use Rattle.std.proofs.Common.{◌≡◌, ◌-◌, ◌++◌}
use Rattle.val_core.specs.Numbers.{numbers_from}
use Rattle.s_sequence.proofs.moves.numbers.Given as goal

abbrev pub invariant-loop-i : goal.invariant-loop-i
invariant-loop-i l = l.numbers.items ++ numbers_from l.i (l.count - l.i) ≡ numbers_from 0 l.count
