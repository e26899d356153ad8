use Rattle.std.proofs.Common.{◌≡◌, drop}
use Rattle.r_inv.specs.Rule.{some_used}
use Rattle.r_inv.proofs.carried.some_used.Given as goal

abbrev pub invariant-loop-port : goal.invariant-loop-port
invariant-loop-port g l = some_used l.id l.region l.port (drop l.port (g.C.Carried.carried l.variables)) ≡ some_used l.id l.region 0 (g.C.Carried.carried l.variables)
