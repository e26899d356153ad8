use Rattle.std.proofs.Common.{◌≡◌, drop}
use Rattle.c_check_def.specs.Externals.{bind_params}
use Rattle.c_check.proofs.bindings.bind_params.Given as goal

abbrev pub invariant-loop-p : goal.invariant-loop-p
invariant-loop-p l = record {
  slot : l.slot ≡ l.p-index;
  left : (bind_params l.p-index (drop l.p-index l.params) l.state).1 ≡ (bind_params 0 l.params l.fn.state).1;
}
