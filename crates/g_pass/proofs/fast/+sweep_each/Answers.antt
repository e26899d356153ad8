-- The first sweep, and then the others.
use Rattle.std.proofs.Common.{rules, take}
use Rattle.g_graph.specs.Ids.{region_ids}
use Rattle.g_pass_def.specs.Sweep.{in_order}
use Rattle.g_pass.specs.Sweep as table
use Rattle.g_pass.specs.Fast.{change_of, swept_with}
use Rattle.g_pass.proofs.FastSweeps.{logged, sweeps_keep, has_added, added_then, swept_then, later_in_arena}
use Rattle.g_pass.proofs.Swept.{on_err}
use Rattle.g_pass.proofs.fast.+sweep_each.Goals as goal

pub returns-in_err-sweep_arena-clause-err : goal.returns-in_err-sweep_arena-clause-err
returns-in_err-sweep_arena-clause-err g t c =
    let w = c.requires.whole in
    let r = c.in-Some.rule.now in
    let h = c.in_err-sweep_arena.ensures.err w.lambda w.stands w.well in
    on_err _ c.from_residual.result
    (has_added (change_of r) (take h.0 (in_order table.rules r (region_ids w.lambda.body))) w.lambda c.args.log.now.items c.sweep_arena.new.log.items c.sweep_arena.new.arena h.1)

pub sweep_each-requires : goal.sweep_each-requires
sweep_each-requires g t c =
    let w = c.requires.whole in
    let r = c.in-Some.rule.now in
    let first = logged w.lambda c.args.log.now.items in
    let h = c.in_ok-sweep_arena.ensures.ok w.lambda w.stands w.well in
    let keeps = sweeps_keep r c.rules_keep.ensures (in_order table.rules r (region_ids w.lambda.body)) first w.well in
    λ κs within. (search rules, (search rules, (later_in_arena r c.in-Some.later.now c.args.sweeps.now c.in-Some.ensures.cases.0 c.requires.in_arena, record { lambda = (swept_with first r).lambda; stands = h.0; well = keeps })))

pub returns-clause-ok : goal.returns-clause-ok
returns-clause-ok g t c = λ l stands well.
    let r = c.in-Some.rule.now in
    let before = c.args.log.now.items in
    let h = c.in_ok-sweep_arena.ensures.ok l stands well in
    let keeps = sweeps_keep r c.rules_keep.ensures (in_order table.rules r (region_ids l.body)) (logged l before) well in
    swept_then c.sweep_each.result r c.in-Some.later.now c.args.sweeps.now l before c.sweep_arena.new.log.items c.sweep_each.new.log.items c.sweep_each.new.arena c.in-Some.ensures.cases.0 h.1
    (c.sweep_each.ensures.ok (swept_with (logged l before) r).lambda h.0 keeps)

pub returns-clause-err : goal.returns-clause-err
returns-clause-err g t c =
    let w = c.requires.whole in
    let r = c.in-Some.rule.now in
    let before = c.args.log.now.items in
    let h = c.in_ok-sweep_arena.ensures.ok w.lambda w.stands w.well in
    added_then c.sweep_each.result before c.sweep_arena.new.log.items c.sweep_each.new.log.items
    (has_added (change_of r) (in_order table.rules r (region_ids w.lambda.body)) w.lambda before c.sweep_arena.new.log.items c.sweep_arena.new.arena h) c.sweep_each.ensures.err
