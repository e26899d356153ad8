use Rattle.std.proofs.Common.{◌≡◌, OnOk, sym, subst}
use Rattle.r_sweep_def.specs.Listed.{stepped_in}
use Rattle.r_dne.specs.SweepLaws.{dne_change}
use Rattle.r_dne.proofs.Visits.{one_region, by_theta}
use Rattle.r_dne.proofs.sweep.shrink.Goals as goal

pub returns-in-Theta-clause-step : goal.returns-in-Theta-clause-step
returns-in-Theta-clause-step g c = λ x e.
    let r = one_region c.args.shape c.args.arena.now c.requires.whole c.requires.shape c.in-Theta.is x e in
    subst (λ o. OnOk c.shrink_theta.result
    (record { nodes = c.shrink_theta.new.arena; steps = c.shrink_theta.new.log.items } ≡ stepped_in dne_change c.args.shape.node (record { nodes = c.args.arena.now; steps = c.args.log.now.items }) o))
    (sym (by_theta c.args.shape c.args.arena.now c.requires.whole c.requires.shape c.in-Theta.is x r.0 e r.1)) (c.shrink_theta.ensures.step x r.0 e r.1)
