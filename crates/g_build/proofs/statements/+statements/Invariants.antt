use Rattle.std.proofs.Common.{◌≡◌, ◌+◌, ◌*◌, ◌≤◌, drop}
use Rattle.c_typed.specs.StmtViews.{items_of, groups_of}
use Rattle.g_build_def.specs.Exits.{either_exits, items_exits, groups_exits}
use Rattle.g_build_def.specs.Statements.{items_made, segments_made}
use Rattle.g_build_count.specs.ExitsViews.{exits_of}
use Rattle.g_build_count.specs.Weights.{stmt_weight, items_weight, groups_weight}
use Rattle.g_build_expression.specs.Work.{made}
use Rattle.std.specs.Prelude.{true}
use Rattle.g_build.specs.Segments.{regions_closed, pending_regions, pending_exits}
use Rattle.g_build.specs.Variables.{pops}
use Rattle.g_build.proofs.statements.+statements.Given as goal

abbrev pub decreases-statement : goal.decreases-statement
decreases-statement l = 4 * stmt_weight l.a.now

abbrev pub decreases-list : goal.decreases-list
decreases-list l = 4 * items_weight (items_of l.items.now)

abbrev pub decreases-if_else : goal.decreases-if_else
decreases-if_else l = 4 * (stmt_weight l.then.now + stmt_weight l.otherwise.now) + 1

abbrev pub decreases-loop_statement : goal.decreases-loop_statement
decreases-loop_statement l = 4 * stmt_weight l.body.now + 1

abbrev pub decreases-do_statement : goal.decreases-do_statement
decreases-do_statement l = 4 * stmt_weight l.body.now + 1

abbrev pub decreases-unless_left : goal.decreases-unless_left
decreases-unless_left l = 4 * items_weight (items_of l.items.now) + 1

abbrev pub decreases-switch_statement : goal.decreases-switch_statement
decreases-switch_statement l = 4 * groups_weight (groups_of l.groups.now) + 2

abbrev pub decreases-segments : goal.decreases-segments
decreases-segments l = 4 * groups_weight (groups_of l.groups.now) + 1

abbrev pub decreases-segment : goal.decreases-segment
decreases-segment l = 4 * groups_weight (groups_of l.groups.now)

abbrev pub decreases-rest_of_segment : goal.decreases-rest_of_segment
decreases-rest_of_segment l = 4 * groups_weight (groups_of l.groups.now) + 1

abbrev pub decreases-group : goal.decreases-group
decreases-group l = 4 * items_weight (items_of l.items.now) + 1

abbrev pub invariant-segments-loop-i : goal.invariant-segments-loop-i
invariant-segments-loop-i l = record {
  work :
      regions_closed l.b (pending_regions l.begins (segments_made l.variables l.begins l.i (groups_of (drop l.i l.groups))))
      ≡ regions_closed l.initial.b (segments_made l.variables true 0 (groups_of l.groups));
  leaves : either_exits (exits_of l.leaves) (pending_exits l.begins (groups_of (drop l.i l.groups))) ≡ groups_exits (groups_of l.groups);
}

abbrev pub invariant-list-loop-i : goal.invariant-list-loop-i
invariant-list-loop-i l = record {
  work :
      pops l.count (made l.b (items_made l.variables (items_of (drop l.i l.items)) l.b.point))
      ≡ made l.initial.b (items_made l.variables (items_of l.items) l.initial.b.point);
  few : l.count ≤ l.i;
  leaves : either_exits (exits_of l.leaves) (items_exits (items_of (drop l.i l.items))) ≡ items_exits (items_of l.items);
}
