use Rattle.std.proofs.Common.{◌≡◌, ◌+◌, ◌<◌, ◌^◌, drop}
use Rattle.std.specs.List.{sum_by}
use Rattle.g_graph.specs.Count.{saturated}
use Rattle.g_build_def.specs.Functions.{function_values}
use Rattle.g_build.proofs.passed.total.Given as goal

abbrev pub invariant-loop-f : goal.invariant-loop-f
invariant-loop-f l = record {
  sum : saturated (l.total + sum_by function_values (drop l.f-index l.functions)) ≡ saturated (sum_by function_values l.functions);
  few : l.total < 2 ^ 64;
}
