use Rattle.std.proofs.Common.{◌≡◌, ◌+◌, ◌<◌, ◌≤◌, ◌^◌, drop}
use Rattle.std.specs.Prelude.{◌||◌}
use Rattle.g_graph.specs.Count.{saturated}
use Rattle.c_typed.specs.StmtViews.{groups_of}
use Rattle.g_build_def.specs.Switch.{some_segment_has_several}
use Rattle.g_build_count.specs.Values.{label_count, segment_count}
use Rattle.g_build_count.proofs.switch.segments_of.Given as goal

abbrev pub invariant-loop-i : goal.invariant-loop-i
invariant-loop-i l =
    (saturated (l.labels + label_count (groups_of (drop l.i l.groups))) ≡ saturated (label_count (groups_of l.groups)))
    × (l.count + segment_count (groups_of (drop l.i l.groups)) ≡ segment_count (groups_of l.groups))
    × ((l.several || some_segment_has_several (groups_of (drop l.i l.groups))) ≡ some_segment_has_several (groups_of l.groups))
    × (l.labels < 2 ^ 64)
    × (l.count ≤ l.i)
