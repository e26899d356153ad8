use Rattle.std.proofs.Common.{◌≡◌, ◌≤◌, ◌++◌, take, drop, length}
use Rattle.r_edit.specs.Places.{kept}
use Rattle.r_edit.proofs.places.move_kept.Given as goal

abbrev pub invariant-loop-from : goal.invariant-loop-from
invariant-loop-from g l = record {
  bound : l.to ≤ l.from;
  same : length l.items ≡ length l.initial.items;
  moved : take l.to l.items ++ kept (drop l.from l.stays) (drop l.from l.initial.items) ≡ kept l.stays l.initial.items;
  rest : drop l.from l.items ≡ drop l.from l.initial.items;
}
