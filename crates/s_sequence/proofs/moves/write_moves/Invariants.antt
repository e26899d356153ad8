use Rattle.std.proofs.Common.{◌≡◌, ◌+◌, ◌≤◌, ◌++◌, drop, map}
use Rattle.std.specs.declared.option.Option.TheVariants.{Some}
use Rattle.s_linear.specs.Lines.{done}
use Rattle.s_sequence.specs.Sequence.{value_args, kept, moves}
use Rattle.s_sequence.proofs.moves.write_moves.Given as goal

abbrev pub invariant-loop-i : goal.invariant-loop-i
invariant-loop-i l = record {
  lines : l.w.lines ++ map done (moves l.target (kept (map Some (drop l.i l.kinds)) (drop l.i l.sources)))
      ≡ l.fn.w.lines ++ map done (moves l.first (kept (map Some l.kinds) l.sources));
  next : l.w.next ≡ l.fn.w.next;
  label : l.w.label ≡ l.fn.w.label;
  room : l.target + value_args (drop l.i l.kinds) ≤ l.first + value_args l.kinds;
}
