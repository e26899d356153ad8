use Rattle.std.proofs.Common.{◌≡◌, take, map}
use Rattle.std.specs.List.{sum}
use Rattle.c_check_def.specs.Limits.{global_bytes, passing}
use Rattle.c_check.proofs.quantities.many_global_bytes.Given as goal

abbrev pub invariant-loop-g : goal.invariant-loop-g
invariant-loop-g v = (v.sum ≡ sum (map (global_bytes v.types) (take v.g-index v.gs))) × (v.passed ≡ passing v.types 0 (take v.g-index v.gs))
