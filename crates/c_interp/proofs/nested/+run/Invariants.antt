-- How deep is still looked, and the order in which the calls stand at one depth.
use Rattle.std.proofs.Common.{◌+◌, ◌*◌}
use Rattle.c_interp.proofs.nested.+run.Given as goal

abbrev pub decreases-run_to : goal.decreases-run_to
decreases-run_to l = 8 * l.depth

abbrev pub decreases-choose_to : goal.decreases-choose_to
decreases-choose_to l = 8 * l.depth + 1

abbrev pub decreases-turn_to : goal.decreases-turn_to
decreases-turn_to l = 8 * l.depth + 1

abbrev pub decreases-while_to : goal.decreases-while_to
decreases-while_to l = 8 * l.depth + 2

abbrev pub decreases-turns_to : goal.decreases-turns_to
decreases-turns_to l = 8 * l.depth + 3

abbrev pub decreases-loop_to : goal.decreases-loop_to
decreases-loop_to l = 8 * l.depth + 4

abbrev pub decreases-items_to : goal.decreases-items_to
decreases-items_to l = 8 * l.depth + 3

abbrev pub decreases-item_to : goal.decreases-item_to
decreases-item_to l = 8 * l.depth + 8

abbrev pub decreases-variable_to : goal.decreases-variable_to
decreases-variable_to l = 8 * l.depth + 7

abbrev pub decreases-statement_to : goal.decreases-statement_to
decreases-statement_to l = 8 * l.depth + 6

abbrev pub decreases-first_to : goal.decreases-first_to
decreases-first_to l = 8 * l.depth + 5

abbrev pub decreases-value_to : goal.decreases-value_to
decreases-value_to l = 8 * l.depth + 4

abbrev pub decreases-declare_to : goal.decreases-declare_to
decreases-declare_to l = 8 * l.depth + 6

abbrev pub decreases-begin_to : goal.decreases-begin_to
decreases-begin_to l = 8 * l.depth + 5

abbrev pub decreases-begin_known : goal.decreases-begin_known
decreases-begin_known l = 8 * l.depth + 4

abbrev pub decreases-run_then : goal.decreases-run_then
decreases-run_then l = 8 * l.depth + 1

abbrev pub decreases-if_to : goal.decreases-if_to
decreases-if_to l = 8 * l.depth + 2

abbrev pub decreases-turn_then : goal.decreases-turn_then
decreases-turn_then l = 8 * l.depth + 2

abbrev pub decreases-while_then : goal.decreases-while_then
decreases-while_then l = 8 * l.depth + 4
