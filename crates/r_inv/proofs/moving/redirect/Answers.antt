use Rattle.std.proofs.Common.{sym, ap, ◌∙◌, arith}
use Rattle.r_sweep_def.specs.Listed.{stepped_in}
use Rattle.r_inv.specs.SweepLaws.{inv_change}
use Rattle.r_inv.proofs.Ports.{count, none_used, some_used}
use Rattle.r_inv.proofs.moving.redirect.Goals as goal

pub some_use-requires-clause-count : goal.some_use-requires-clause-count
some_use-requires-clause-count g c =
    let h = c.requires.shape in
    count c.args.shape c.args.arena.now c.requires.whole h c.args.carried.now (c.requires.carried h.node h.there) c.requires.op

pub returns-then-not-some_use-clause-step : goal.returns-then-not-some_use-clause-step
returns-then-not-some_use-clause-step g c = λ x e.
    let h = c.requires.shape in
    sym (ap (stepped_in inv_change c.args.shape.node (record { nodes = c.args.arena.now; steps = c.args.log.now.items }))
    (none_used c.args.shape c.args.arena.now c.requires.whole h c.args.carried.now (c.requires.carried h.node h.there) c.requires.op x e (sym c.some_use.ensures.used ∙ c.if-not-some_use.true)).0)

pub returns-clause-step : goal.returns-clause-step
returns-clause-step g c = λ x e.
    let h = c.requires.shape in
    (λ i. record { nodes = c.move_carried.ensures.moved x e i; steps = c.in_ok-push.ensures.items i })
    ∙ sym (ap (stepped_in inv_change c.args.shape.node (record { nodes = c.args.arena.now; steps = c.args.log.now.items }))
    (some_used c.args.shape c.args.arena.now c.requires.whole h c.args.carried.now (c.requires.carried h.node h.there) c.requires.op x e (sym c.some_use.ensures.used ∙ c.if-not-some_use.false)).0)

pub returns-clause-looks : goal.returns-clause-looks
returns-clause-looks g c = λ x e.
    let h = c.requires.shape in
    omega (
      arith,
      c.some_use.ensures.looks,
      c.move_carried.ensures.looks x e,
      (some_used c.args.shape c.args.arena.now c.requires.whole h c.args.carried.now (c.requires.carried h.node h.there) c.requires.op x e (sym c.some_use.ensures.used ∙ c.if-not-some_use.false)).1,
    )
