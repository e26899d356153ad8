-- The new node is put.
use Rattle.std.proofs.Common.{subst}
use Rattle.r_pull.specs.Walk.{put_where}
use Rattle.r_pull.specs.Behind.{behind, IsWritten}
use Rattle.r_pull.proofs.Loops.{on_ok}
use Rattle.r_pull.proofs.walker.put_with.Goals as goal
use Rattle.r_walk.specs.Asks.{walking}

pub returns-clause-ok : goal.returns-clause-ok
returns-clause-ok c =
    let ws = c.args.kept.now.written.items in
    let start = walking c.args.counts.now.values c.args.counts.now.next c.args.log.now.items in
    let then = walking c.put.new.counts.values c.put.new.counts.next c.put.new.log.items in
    on_ok c.put.result _ _
    (λ h results are. subst (λ y. IsWritten results (put_where y results (behind ws start)) c.put.new.written.items c.put.new.users then) c.in_ok-new.ensures (h results are))
    c.put.ensures.ok
