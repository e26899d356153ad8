use Rattle.std.proofs.Common.{◌≡◌, drop}
use Rattle.c_typed.specs.StmtViews.{items_of, groups_of}
use Rattle.g_build_def.specs.Exits.{items_jump, groups_jump}
use Rattle.g_build_count.specs.Weights.{stmt_weight, items_weight, groups_weight}
use Rattle.g_build_count.proofs.jumps.+jumps.Given as goal

abbrev pub decreases-stmt_jumps : goal.decreases-stmt_jumps
decreases-stmt_jumps l = stmt_weight l.a.now

abbrev pub decreases-items_jump : goal.decreases-items_jump
decreases-items_jump l = items_weight (items_of l.items.now)

abbrev pub decreases-groups_jump : goal.decreases-groups_jump
decreases-groups_jump l = groups_weight (groups_of l.groups.now)

abbrev pub invariant-items_jump-loop-item : goal.invariant-items_jump-loop-item
invariant-items_jump-loop-item l = items_jump (items_of (drop l.item-index l.items)) ≡ items_jump (items_of l.items)

abbrev pub invariant-groups_jump-loop-group : goal.invariant-groups_jump-loop-group
invariant-groups_jump-loop-group l = groups_jump (groups_of (drop l.group-index l.groups)) ≡ groups_jump (groups_of l.groups)
