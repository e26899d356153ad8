use Rattle.std.proofs.Common.{map}
use Rattle.std.specs.Arc.{arc_value}
use Rattle.call_order.specs.Units.{call_lists}
use Rattle.g_pass_def.specs.Answers.{lambdas_of}
use Rattle.log_check.specs.Right.{AreRightUntil}
use Rattle.log_check.proofs.ranks.replay.Given as goal

abbrev pub invariant-loop-rank : goal.invariant-loop-rank
invariant-loop-rank l =
    AreRightUntil l.lambdas l.order.ranks.items (call_lists l.order.deps.items) l.log l.rank 0 (lambdas_of (map arc_value l.made.items))
