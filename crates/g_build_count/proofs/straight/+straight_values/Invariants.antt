use Rattle.std.proofs.Common.{◌≡◌, ◌+◌, ◌<◌, ◌^◌, drop}
use Rattle.g_graph.specs.Count.{saturated}
use Rattle.c_typed.specs.StmtViews.{items_of}
use Rattle.g_build_count.specs.Values.{straight_values}
use Rattle.g_build_count.specs.Weights.{items_weight}
use Rattle.g_build_count.proofs.straight.+straight_values.Given as goal

abbrev pub decreases-straight_values : goal.decreases-straight_values
decreases-straight_values l = items_weight (items_of l.items.now)

abbrev pub invariant-loop-i : goal.invariant-loop-i
invariant-loop-i l =
    (saturated (l.total + straight_values l.variables l.carried l.inner.objects (items_of (drop l.i l.items)))
    ≡ saturated (straight_values l.variables l.initial.carried l.initial.inner.objects (items_of l.items)))
    × (l.total < 2 ^ 64)
