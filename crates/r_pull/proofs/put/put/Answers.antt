-- Where no Gamma takes the node it is written.
use Rattle.r_pull.proofs.Loops.{on_both}
use Rattle.r_pull.proofs.Steps.{untaken}
use Rattle.r_pull.proofs.put.put.Goals as goal
use Rattle.r_walk.specs.Asks.{walking}

pub returns-in-None-clause-ok : goal.returns-in-None-clause-ok
returns-in-None-clause-ok c =
    on_both c.write.result _ _ _
    (λ nodes noted results are.
    untaken c.args.node results c.args.written.now.items (walking c.args.counts.now.values c.args.counts.now.next c.args.log.now.items) c.args.users.now are
    c.write.new.written.items c.write.new.users nodes noted (λ j e leaves. c.gamma_of.ensures.none c.in-None.is j e leaves))
    c.write.ensures.nodes c.write.ensures.users
