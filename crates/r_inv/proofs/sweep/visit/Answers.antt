use Rattle.std.proofs.Common.{arith, ap, sym, ◌∙◌}
use Rattle.r_sweep_def.specs.Listed.{stepped_in}
use Rattle.g_arena_def.specs.Reads.{node_after}
use Rattle.r_inv.specs.SweepLaws.{inv_change}
use Rattle.r_inv.specs.Cost.{cost_left}
use Rattle.r_inv.proofs.Visits.{cost_none, step_is, told_shape, told_inputs, told_none, err_cost, ok_numbers, ok_cost}
use Rattle.r_inv.proofs.sweep.visit.Goals as goal

pub carried-requires-clause-shape : goal.carried-requires-clause-shape
carried-requires-clause-shape g c = told_shape c.args.node c.args.arena.now c.requires.there.0 c.requires.whole c.requires.there.1 _ c.in-Some.ensures.view

pub carried-requires-clause-inputs : goal.carried-requires-clause-inputs
carried-requires-clause-inputs g c = told_inputs c.args.node c.args.arena.now c.requires.there.0 c.requires.whole c.requires.there.1 _ c.in-Some.ensures.view

pub redirect-requires-clause-shape : goal.redirect-requires-clause-shape
redirect-requires-clause-shape g c = told_shape c.args.node c.args.arena.now c.requires.there.0 c.requires.whole c.requires.there.1 _ c.in-Some.ensures.view

pub redirect-requires-clause-carried : goal.redirect-requires-clause-carried
redirect-requires-clause-carried g c = λ x e. c.deref.ensures.value ∙ c.in_ok-list.ensures.list x e

pub returns-in_err-list-clause-looks : goal.returns-in_err-list-clause-looks
returns-in_err-list-clause-looks g c =
    omega (
      arith,
      err_cost c.args.node c.args.arena.now c.requires.there.0 c.requires.whole c.requires.there.1 _ c.in-Some.ensures.view (sym c.can_carry.ensures ∙ c.if-can_carry.true),
      c.in_err-list.ensures.looks,
    )

pub returns-in_err-redirect-clause-looks : goal.returns-in_err-redirect-clause-looks
returns-in_err-redirect-clause-looks g c =
    omega (
      arith,
      err_cost c.args.node c.args.arena.now c.requires.there.0 c.requires.whole c.requires.there.1 _ c.in-Some.ensures.view (sym c.can_carry.ensures ∙ c.if-can_carry.true),
      c.in_ok-list.ensures.looks,
      c.in_err-redirect.ensures.err_looks,
      ap (cost_left (node_after c.args.node c.args.arena.now)) c.in_err-redirect.ensures.err_arena,
    )

pub returns-in_ok-redirect-clause-step : goal.returns-in_ok-redirect-clause-step
returns-in_ok-redirect-clause-step g c =
    c.in_ok-redirect.ensures.step c.requires.there.0 c.requires.there.1
    ∙ ap (stepped_in inv_change c.args.node (record { nodes = c.args.arena.now; steps = c.args.log.now.items }))
    (sym (step_is c.args.node c.args.arena.now c.requires.there.0 c.requires.whole c.requires.there.1))

pub returns-in_ok-redirect-clause-numbers : goal.returns-in_ok-redirect-clause-numbers
returns-in_ok-redirect-clause-numbers g c =
    ok_numbers c.args.node c.args.arena.now c.requires.there.0 c.requires.whole c.requires.there.1 _ c.in-Some.ensures.view (sym c.can_carry.ensures ∙ c.if-can_carry.true)
    c.redirect.new.arena c.args.log.now.items c.redirect.new.log.items (c.in_ok-redirect.ensures.step c.requires.there.0 c.requires.there.1)

pub returns-in_ok-redirect-clause-looks : goal.returns-in_ok-redirect-clause-looks
returns-in_ok-redirect-clause-looks g c =
    omega (
      arith,
      ok_cost c.args.node c.args.arena.now c.requires.there.0 c.requires.whole c.requires.there.1 _ c.in-Some.ensures.view (sym c.can_carry.ensures ∙ c.if-can_carry.true)
          c.redirect.new.arena c.args.log.now.items c.redirect.new.log.items (c.in_ok-redirect.ensures.step c.requires.there.0 c.requires.there.1),
      c.in_ok-list.ensures.looks,
      c.in_ok-redirect.ensures.looks c.requires.there.0 c.requires.there.1,
    )

pub returns-else-can_carry-clause-step : goal.returns-else-can_carry-clause-step
returns-else-can_carry-clause-step g c =
    ap (stepped_in inv_change c.args.node (record { nodes = c.args.arena.now; steps = c.args.log.now.items }))
    (sym (told_none c.args.node c.args.arena.now c.requires.there.0 c.requires.whole c.requires.there.1 _ c.in-Some.ensures.view (sym c.can_carry.ensures ∙ c.if-can_carry.false)))

pub returns-else-can_carry-clause-looks : goal.returns-else-can_carry-clause-looks
returns-else-can_carry-clause-looks g c = omega (arith, cost_none c.args.node c.args.arena.now c.requires.there.0 c.requires.whole c.requires.there.1)
