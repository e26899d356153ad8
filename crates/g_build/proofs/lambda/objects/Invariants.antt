use Rattle.std.proofs.Common.{◌≡◌, ◌++◌, drop}
use Rattle.c_typed.specs.WellTyped.{VariablesFit}
use Rattle.g_build_def.specs.Functions.{objects_made}
use Rattle.g_build.proofs.lambda.objects.Given as goal

abbrev pub invariant-loop-variable : goal.invariant-loop-variable
invariant-loop-variable l = record {
  objects : l.objects.items ++ objects_made l.types (drop l.variable-index l.variables) ≡ objects_made l.types l.variables;
  fit : VariablesFit l.types (drop l.variable-index l.variables);
}
