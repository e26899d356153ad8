use Rattle.std.proofs.Common.{ap, sym, ◌∙◌}
use Rattle.r_sweep_def.specs.Listed.{stepped_in}
use Rattle.r_dne.specs.SweepLaws.{dne_change}
use Rattle.r_dne.proofs.Visits.{dead_step, unused_node}
use Rattle.r_dne.proofs.sweep.visit.Goals as goal

pub remove_node-requires : goal.remove_node-requires
remove_node-requires g c =
    let x = c.requires.there.0 in
    let e = c.requires.there.1 in
    unused_node c.args.node c.args.arena.now x c.requires.whole e (sym (c.is_dead.ensures.dead x e) ∙ c.if-is_dead.true)

pub returns-in_ok-push-clause-step : goal.returns-in_ok-push-clause-step
returns-in_ok-push-clause-step g c =
    let x = c.requires.there.0 in
    let e = c.requires.there.1 in
    (λ i. record { nodes = c.remove_node.ensures.removed i; steps = c.in_ok-push.ensures.items i })
    ∙ ap (stepped_in dne_change c.args.node (record { nodes = c.args.arena.now; steps = c.args.log.now.items }))
    (sym (dead_step c.args.node c.args.arena.now x c.requires.whole e (sym (c.is_dead.ensures.dead x e) ∙ c.if-is_dead.true)))
