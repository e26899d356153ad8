-- How deep is still looked, and the order in which the calls stand at one depth.
use Rattle.std.proofs.Common.{◌+◌, ◌*◌}
use Rattle.c_interp_answer.proofs.answered_expression.+answer.Given as goal

abbrev pub decreases-inner_address : goal.decreases-inner_address
decreases-inner_address l = 8 * l.depth

abbrev pub decreases-address : goal.decreases-address
decreases-address l = 8 * l.depth + 1

abbrev pub decreases-object_value : goal.decreases-object_value
decreases-object_value l = 8 * l.depth + 2

abbrev pub decreases-binary_value : goal.decreases-binary_value
decreases-binary_value l = 8 * l.depth + 2

abbrev pub decreases-element : goal.decreases-element
decreases-element l = 8 * l.depth + 6

abbrev pub decreases-operated_value : goal.decreases-operated_value
decreases-operated_value l = 8 * l.depth + 7

abbrev pub decreases-operator_value : goal.decreases-operator_value
decreases-operator_value l = 8 * l.depth + 1

abbrev pub decreases-located_word : goal.decreases-located_word
decreases-located_word l = 8 * l.depth + 2

abbrev pub decreases-operand_word : goal.decreases-operand_word
decreases-operand_word l = 8 * l.depth + 1

abbrev pub decreases-operator_word : goal.decreases-operator_word
decreases-operator_word l = 8 * l.depth + 1

abbrev pub decreases-binary_word : goal.decreases-binary_word
decreases-binary_word l = 8 * l.depth + 1

abbrev pub decreases-value : goal.decreases-value
decreases-value l = 8 * l.depth + 3

abbrev pub decreases-object_word : goal.decreases-object_word
decreases-object_word l = 8 * l.depth + 3

abbrev pub decreases-operand : goal.decreases-operand
decreases-operand l = 8 * l.depth + 4

abbrev pub decreases-word : goal.decreases-word
decreases-word l = 8 * l.depth + 5

abbrev pub decreases-asked : goal.decreases-asked
decreases-asked l = 8 * l.depth + 6

abbrev pub decreases-answer : goal.decreases-answer
decreases-answer l = 8 * l.depth + 6

abbrev pub decreases-truth_word : goal.decreases-truth_word
decreases-truth_word l = 8 * l.depth + 7

abbrev pub decreases-pointers_word : goal.decreases-pointers_word
decreases-pointers_word l = 8 * l.depth + 7
