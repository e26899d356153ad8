use Rattle.std.proofs.Common.{◌≡◌, ◌+◌, ◌<◌, ◌^◌, true, drop}
use Rattle.std.specs.Prelude.{◌&&◌}
use Rattle.g_graph.specs.Count.{saturated}
use Rattle.c_typed.specs.StmtViews.{items_of, groups_of}
use Rattle.g_build_def.specs.Exits.{either_exits, items_exits, groups_exits, some_items}
use Rattle.g_build_count.specs.ExitsViews.{exits_of}
use Rattle.g_build_count.specs.Values.{leaving_values, items_values, groups_values}
use Rattle.g_build_count.specs.Weights.{stmt_weight, items_weight, groups_weight}
use Rattle.g_build_count.proofs.statement.+statements.Given as goal

abbrev pub decreases-stmt_values : goal.decreases-stmt_values
decreases-stmt_values l = stmt_weight l.a.now

abbrev pub decreases-items_values : goal.decreases-items_values
decreases-items_values l = items_weight (items_of l.items.now)

abbrev pub decreases-groups_values : goal.decreases-groups_values
decreases-groups_values l = groups_weight (groups_of l.groups.now)

abbrev pub invariant-items_values-loop-i : goal.invariant-items_values-loop-i
invariant-items_values-loop-i l =
    (saturated (l.total + (leaving_values l.carried (l.left && some_items (items_of (drop l.i l.items))) + items_values l.variables l.carried l.inner.objects (items_of (drop l.i l.items))))
    ≡ saturated (items_values l.variables l.initial.carried l.initial.inner.objects (items_of l.items)))
    × (either_exits (exits_of l.leaves) (items_exits (items_of (drop l.i l.items))) ≡ items_exits (items_of l.items))
    × (l.total < 2 ^ 64)

abbrev pub invariant-groups_values-loop-i : goal.invariant-groups_values-loop-i
invariant-groups_values-loop-i l =
    (saturated (l.total + groups_values l.variables l.carried l.scope.objects l.begins (groups_of (drop l.i l.groups)))
    ≡ saturated (groups_values l.variables l.carried l.scope.objects true (groups_of l.groups)))
    × (either_exits (exits_of l.leaves) (groups_exits (groups_of (drop l.i l.groups))) ≡ groups_exits (groups_of l.groups))
    × (l.total < 2 ^ 64)
