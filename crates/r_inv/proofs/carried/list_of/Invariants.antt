use Rattle.std.proofs.Common.{◌≡◌, take}
use Rattle.r_inv.proofs.carried.list_of.Given as goal

abbrev pub invariant-loop-i : goal.invariant-loop-i
invariant-loop-i g l = l.list.items ≡ take l.i (g.C.Carried.carried l.variables)
