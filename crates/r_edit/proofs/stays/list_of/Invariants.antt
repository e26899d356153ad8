use Rattle.std.proofs.Common.{◌≡◌, take}
use Rattle.r_edit.proofs.stays.list_of.Given as goal

abbrev pub invariant-loop-i : goal.invariant-loop-i
invariant-loop-i g l = l.list.items ≡ take l.i (g.S.Stays.stays l.variables)
