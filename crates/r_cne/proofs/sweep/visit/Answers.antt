use Rattle.std.proofs.Common.{arith, ap, sym, ◌∙◌}
use Rattle.r_sweep_def.specs.Listed.{stepped_in}
use Rattle.g_arena_def.specs.Reads.{node_after}
use Rattle.r_cne.specs.SweepLaws.{cne_change}
use Rattle.r_cne.specs.First.{cost_left}
use Rattle.r_cne.proofs.Visits.{cost_here, told_passed, told_same, told_first, told_own, told_there, told_kinds, told_step, told_first_after, told_numbers, told_cost}
use Rattle.r_cne.proofs.sweep.visit.Goals as goal

pub returns-in_err-first-clause-looks : goal.returns-in_err-first-clause-looks
returns-in_err-first-clause-looks g c = omega (arith, cost_here c.args.node c.args.arena.now c.requires.there.0 c.requires.whole c.requires.there.1)

pub merge-requires-clause-own : goal.merge-requires-clause-own
merge-requires-clause-own g c =
    told_own c.args.node c.args.arena.now c.requires.there.0 c.requires.whole c.requires.there.1 _ c.in-Some.ensures.view c.args.keys.now c.first.new.self c.in_ok-first.first
    (sym c.is_common.ensures ∙ c.if-is_common.true) c.requires.first c.in_ok-first.ensures.node c.in_ok-first.ensures.ok c.if-first-node.true

pub merge-requires-clause-there : goal.merge-requires-clause-there
merge-requires-clause-there g c =
    told_there c.args.node c.args.arena.now c.requires.there.0 c.requires.whole c.requires.there.1 _ c.in-Some.ensures.view c.args.keys.now c.first.new.self c.in_ok-first.first
    (sym c.is_common.ensures ∙ c.if-is_common.true) c.requires.first c.in_ok-first.ensures.node c.in_ok-first.ensures.ok c.if-first-node.true

pub merge-requires-clause-kinds : goal.merge-requires-clause-kinds
merge-requires-clause-kinds g c =
    told_kinds c.args.node c.args.arena.now c.requires.there.0 c.requires.whole c.requires.there.1 _ c.in-Some.ensures.view c.args.keys.now c.first.new.self c.in_ok-first.first
    (sym c.is_common.ensures ∙ c.if-is_common.true) c.requires.first c.in_ok-first.ensures.node c.in_ok-first.ensures.ok c.if-first-node.true

pub returns-in_err-merge-clause-looks : goal.returns-in_err-merge-clause-looks
returns-in_err-merge-clause-looks g c =
    omega (
      arith,
      cost_here c.args.node c.args.arena.now c.requires.there.0 c.requires.whole c.requires.there.1,
      c.in_err-merge.ensures.err_looks,
      ap (cost_left (node_after c.args.node c.args.arena.now)) c.in_err-merge.ensures.err_arena,
    )

pub returns-in_ok-merge-clause-step : goal.returns-in_ok-merge-clause-step
returns-in_ok-merge-clause-step g c =
    c.in_ok-merge.ensures.step
    ∙ ap (stepped_in cne_change c.args.node (record { nodes = c.args.arena.now; steps = c.args.log.now.items }))
    (sym (told_step c.args.node c.args.arena.now c.requires.there.0 c.requires.whole c.requires.there.1 _ c.in-Some.ensures.view c.args.keys.now c.first.new.self c.in_ok-first.first
    (sym c.is_common.ensures ∙ c.if-is_common.true) c.requires.first c.in_ok-first.ensures.node c.in_ok-first.ensures.ok c.if-first-node.true))

pub returns-in_ok-merge-clause-first : goal.returns-in_ok-merge-clause-first
returns-in_ok-merge-clause-first g c =
    told_first_after c.args.node c.args.arena.now c.requires.there.0 c.requires.whole c.requires.there.1 _ c.in-Some.ensures.view c.args.keys.now c.first.new.self c.in_ok-first.first
    (sym c.is_common.ensures ∙ c.if-is_common.true) c.requires.first c.in_ok-first.ensures.node c.in_ok-first.ensures.ok c.if-first-node.true c.merge.new.arena c.args.log.now.items c.merge.new.log.items c.in_ok-merge.ensures.step

pub returns-in_ok-merge-clause-numbers : goal.returns-in_ok-merge-clause-numbers
returns-in_ok-merge-clause-numbers g c =
    told_numbers c.args.node c.args.arena.now c.requires.there.0 c.requires.whole c.requires.there.1 _ c.in-Some.ensures.view c.args.keys.now c.first.new.self c.in_ok-first.first
    (sym c.is_common.ensures ∙ c.if-is_common.true) c.requires.first c.in_ok-first.ensures.node c.in_ok-first.ensures.ok c.if-first-node.true c.merge.new.arena c.args.log.now.items c.merge.new.log.items c.in_ok-merge.ensures.step

pub returns-in_ok-merge-clause-looks : goal.returns-in_ok-merge-clause-looks
returns-in_ok-merge-clause-looks g c =
    told_cost c.args.node c.args.arena.now c.requires.there.0 c.requires.whole c.requires.there.1 _ c.in-Some.ensures.view c.args.keys.now c.first.new.self c.in_ok-first.first
    (sym c.is_common.ensures ∙ c.if-is_common.true) c.requires.first c.in_ok-first.ensures.node c.in_ok-first.ensures.ok c.if-first-node.true c.merge.new.arena c.args.log.now.items c.merge.new.log.items c.in_ok-merge.ensures.step
    c.args.looks.now c.merge.new.looks (omega (arith, c.in_ok-merge.ensures.looks))

pub returns-else-first-node-clause-step : goal.returns-else-first-node-clause-step
returns-else-first-node-clause-step g c =
    ap (stepped_in cne_change c.args.node (record { nodes = c.args.arena.now; steps = c.args.log.now.items }))
    (sym (told_same c.args.node c.args.arena.now c.requires.there.0 c.requires.whole c.requires.there.1 _ c.in-Some.ensures.view c.args.keys.now c.first.new.self c.in_ok-first.first
    (sym c.is_common.ensures ∙ c.if-is_common.true) c.requires.first c.in_ok-first.ensures.node c.in_ok-first.ensures.ok c.if-first-node.false))

pub returns-else-first-node-clause-first : goal.returns-else-first-node-clause-first
returns-else-first-node-clause-first g c =
    told_first c.args.node c.args.arena.now c.requires.there.0 c.requires.whole c.requires.there.1 _ c.in-Some.ensures.view c.args.keys.now c.first.new.self c.in_ok-first.first
    (sym c.is_common.ensures ∙ c.if-is_common.true) c.requires.first c.in_ok-first.ensures.node c.in_ok-first.ensures.ok

pub returns-else-first-node-clause-looks : goal.returns-else-first-node-clause-looks
returns-else-first-node-clause-looks g c = omega (arith, cost_here c.args.node c.args.arena.now c.requires.there.0 c.requires.whole c.requires.there.1)

pub returns-else-is_common-clause-first : goal.returns-else-is_common-clause-first
returns-else-is_common-clause-first g c =
    told_passed c.args.node c.args.arena.now c.requires.there.0 c.requires.whole c.requires.there.1 _ c.in-Some.ensures.view c.args.keys.now
    (sym c.is_common.ensures ∙ c.if-is_common.false) c.requires.first

pub returns-else-is_common-clause-looks : goal.returns-else-is_common-clause-looks
returns-else-is_common-clause-looks g c = omega (arith, cost_here c.args.node c.args.arena.now c.requires.there.0 c.requires.whole c.requires.there.1)
