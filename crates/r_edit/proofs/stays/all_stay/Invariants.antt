use Rattle.std.proofs.Common.{◌≡◌, drop}
use Rattle.r_edit.specs.InPlace.{all_stay}
use Rattle.r_edit.proofs.stays.all_stay.Given as goal

abbrev pub invariant-loop-i : goal.invariant-loop-i
invariant-loop-i g l = all_stay (drop l.i (g.S.Stays.stays l.variables)) ≡ all_stay (g.S.Stays.stays l.variables)
