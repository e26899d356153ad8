use Rattle.std.proofs.Common.{map, arith}
use Rattle.std.specs.Arc.{arc_value}
use Rattle.call_order.specs.Units.{call_lists}
use Rattle.g_pass_def.specs.Answers.{lambdas_of}
use Rattle.log_check.proofs.Taken.{rank-up}
use Rattle.log_check.proofs.ranks.replay_rank.Goals as goal

pub returns-clause-right : goal.returns-clause-right
returns-clause-right c =
    let ls = c.args.lambdas.now in
    let ranks = c.args.order.now.ranks.items in
    let deps = call_lists c.args.order.now.deps.items in
    rank-up ls ranks deps c.args.log.now (c.orders_are_unique.ensures.ranked ls ranks deps c.requires.order) c.args.rank c.loop-function.function
    (lambdas_of (map arc_value c.loop-function.made.items)) (omega arith) c.loop-function.invariant
