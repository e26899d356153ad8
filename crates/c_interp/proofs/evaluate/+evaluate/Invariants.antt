-- How deep is still looked, and the order in which the calls stand at one depth.
use Rattle.std.proofs.Common.{◌+◌, ◌*◌}
use Rattle.c_interp.proofs.evaluate.+evaluate.Given as goal

abbrev pub decreases-unknown_to : goal.decreases-unknown_to
decreases-unknown_to l = 8 * l.depth

abbrev pub decreases-pass_value : goal.decreases-pass_value
decreases-pass_value l = 8 * l.depth

abbrev pub decreases-find_to : goal.decreases-find_to
decreases-find_to l = 8 * l.depth

abbrev pub decreases-evaluate_to : goal.decreases-evaluate_to
decreases-evaluate_to l = 8 * l.depth + 1

abbrev pub decreases-pass_one : goal.decreases-pass_one
decreases-pass_one l = 8 * l.depth + 1

abbrev pub decreases-locate_to : goal.decreases-locate_to
decreases-locate_to l = 8 * l.depth + 1

abbrev pub decreases-unary_to : goal.decreases-unary_to
decreases-unary_to l = 8 * l.depth + 2

abbrev pub decreases-test_later : goal.decreases-test_later
decreases-test_later l = 8 * l.depth + 1

abbrev pub decreases-test_unary : goal.decreases-test_unary
decreases-test_unary l = 8 * l.depth + 2

abbrev pub decreases-test_to : goal.decreases-test_to
decreases-test_to l = 8 * l.depth + 3

abbrev pub decreases-choose_to : goal.decreases-choose_to
decreases-choose_to l = 8 * l.depth + 2

abbrev pub decreases-operate_on : goal.decreases-operate_on
decreases-operate_on l = 8 * l.depth + 2

abbrev pub decreases-pass_later : goal.decreases-pass_later
decreases-pass_later l = 8 * l.depth + 2

abbrev pub decreases-read_to : goal.decreases-read_to
decreases-read_to l = 8 * l.depth + 2

abbrev pub decreases-store_to : goal.decreases-store_to
decreases-store_to l = 8 * l.depth + 2

abbrev pub decreases-and_to : goal.decreases-and_to
decreases-and_to l = 8 * l.depth + 4

abbrev pub decreases-or_to : goal.decreases-or_to
decreases-or_to l = 8 * l.depth + 4

abbrev pub decreases-operate_to : goal.decreases-operate_to
decreases-operate_to l = 8 * l.depth + 3

abbrev pub decreases-pass_first : goal.decreases-pass_first
decreases-pass_first l = 8 * l.depth + 3

abbrev pub decreases-assign_to : goal.decreases-assign_to
decreases-assign_to l = 8 * l.depth + 3

abbrev pub decreases-pass_to : goal.decreases-pass_to
decreases-pass_to l = 8 * l.depth + 4

abbrev pub decreases-call_to : goal.decreases-call_to
decreases-call_to l = 8 * l.depth + 5
