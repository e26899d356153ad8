use Rattle.std.proofs.Common.{◌≡◌, ◌++◌, ◌≤◌, drop}
use Rattle.g_build_def.specs.Writer.{with_variables}
use Rattle.g_build_def.specs.Functions.{params_carried}
use Rattle.g_build_expression.specs.Work.{moved_to}
use Rattle.g_build.proofs.params.enter.Given as goal

abbrev pub invariant-loop-i : goal.invariant-loop-i
invariant-loop-i l = record {
  work :
      moved_to l.b (with_variables l.b.point (l.b.point.carried.variables ++ params_carried l.number l.i (drop l.i l.params)))
      ≡ moved_to l.initial.b (with_variables l.initial.b.point (l.initial.b.point.carried.variables ++ params_carried 0 0 l.params));
  few : l.number ≤ l.i;
}
