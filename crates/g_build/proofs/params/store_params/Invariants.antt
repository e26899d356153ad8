use Rattle.std.proofs.Common.{◌≡◌, ◌≤◌, drop}
use Rattle.g_build_def.specs.Functions.{params_stored}
use Rattle.g_build_expression.specs.Work.{made}
use Rattle.g_build.proofs.params.store_params.Given as goal

abbrev pub invariant-loop-i : goal.invariant-loop-i
invariant-loop-i l = record {
  work :
      made l.b (params_stored l.number l.i (drop l.i l.params) l.b.point)
      ≡ made l.initial.b (params_stored 0 0 l.params l.initial.b.point);
  few : l.number ≤ l.i;
}
