use Rattle.std.proofs.Common.{◌≡◌, ◌+◌, ◌-◌, ◌++◌, map}
use Rattle.s_linear.specs.Lines.{done}
use Rattle.val_core.specs.Numbers.{numbers_from}
use Rattle.s_sequence.specs.Sequence.{moves}
use Rattle.s_sequence.proofs.moves.write_back.Given as goal

abbrev pub invariant-loop-i : goal.invariant-loop-i
invariant-loop-i l = record {
  lines : l.w.lines ++ map done (moves (l.target + l.i) (numbers_from (l.source + l.i) (l.count - l.i)))
      ≡ l.fn.w.lines ++ map done (moves l.target (numbers_from l.source l.count));
  next : l.w.next ≡ l.fn.w.next;
  label : l.w.label ≡ l.fn.w.label;
}
