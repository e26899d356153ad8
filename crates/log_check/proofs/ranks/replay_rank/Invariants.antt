use Rattle.std.proofs.Common.{map}
use Rattle.std.specs.Arc.{arc_value}
use Rattle.call_order.specs.Units.{call_lists}
use Rattle.g_pass_def.specs.Answers.{lambdas_of}
use Rattle.log_check.specs.Right.{AreRightUntil}
use Rattle.log_check.proofs.ranks.replay_rank.Given as goal

abbrev pub invariant-loop-function : goal.invariant-loop-function
invariant-loop-function l =
    AreRightUntil l.lambdas l.order.ranks.items (call_lists l.order.deps.items) l.log l.rank l.function (lambdas_of (map arc_value l.made.items))
