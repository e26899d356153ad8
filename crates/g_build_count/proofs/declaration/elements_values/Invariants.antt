use Rattle.std.proofs.Common.{◌≡◌, ◌+◌, ◌<◌, ◌^◌, drop}
use Rattle.g_graph.specs.Count.{saturated}
use Rattle.c_typed.specs.StmtViews.{elements_of}
use Rattle.g_build_count.specs.Values.{elements_values}
use Rattle.g_build_count.proofs.declaration.elements_values.Given as goal

abbrev pub invariant-loop-element : goal.invariant-loop-element
invariant-loop-element l =
    (saturated (l.total + elements_values l.carried l.scope.objects (elements_of (drop l.element-index l.elements))) ≡ saturated (elements_values l.carried l.scope.objects (elements_of l.elements)))
    × (l.total < 2 ^ 64)
