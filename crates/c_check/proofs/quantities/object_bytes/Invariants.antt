use Rattle.std.proofs.Common.{◌≡◌, take, map}
use Rattle.std.specs.List.{sum}
use Rattle.c_check_def.specs.Limits.{bytes_of}
use Rattle.c_check.proofs.quantities.object_bytes.Given as goal

abbrev pub invariant-loop-v : goal.invariant-loop-v
invariant-loop-v v = v.sum ≡ sum (map (bytes_of v.types) (take v.v-index v.variables))
