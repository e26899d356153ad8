use Rattle.std.proofs.Common.{add-one, arith}
use Rattle.r_pull.proofs.Filled.{arguments_more}
use Rattle.r_pull.proofs.plan.arguments.Goals as goal

pub loop-k-preserved : goal.loop-k-preserved
loop-k-preserved c =
    rw add-one (arguments_more c.args.first c.loop-k.k c.args.inputs.now c.loop-k.all.items c.push.new.self.items (omega arith) c.in_ok-push.ensures.ok c.loop-k.invariant)
