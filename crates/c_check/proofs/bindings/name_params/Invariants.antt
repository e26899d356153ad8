use Rattle.std.proofs.Common.{◌≡◌, drop}
use Rattle.c_check_def.specs.Externals.{name_params}
use Rattle.c_check.proofs.bindings.name_params.Given as goal

abbrev pub invariant-loop-p : goal.invariant-loop-p
invariant-loop-p l = (name_params (drop l.p-index l.params) l.state).1 ≡ (name_params l.params l.fn.state).1
