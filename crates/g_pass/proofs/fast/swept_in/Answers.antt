-- Sweeps over an arena of the lambda.
use Rattle.std.proofs.Common.{sym, subst}
use Rattle.std.proofs.lemmas.Result.{IfOk-weaker}
use Rattle.g_graph.specs.WellFormed.{IsWellFormed}
use Rattle.g_pass.specs.Fast.{swept_each}
use Rattle.g_pass.proofs.FastSweeps.{logged, on_ok, at_err, each_keeps, each_has_added}
use Rattle.g_pass.proofs.Swept.{on_err}
use Rattle.g_pass.proofs.fast.swept_in.Goals as goal

pub sweep_each-requires-clause-whole : goal.sweep_each-requires-clause-whole
sweep_each-requires-clause-whole g c = record { lambda = c.args.lambda; stands = c.in_ok-arena.ensures.stands; well = c.requires.well_formed }

pub returns-in-Ok-clause-kept : goal.returns-in-Ok-clause-kept
returns-in-Ok-clause-kept g c =
    let h = on_ok c.sweep_each.result _ c.in-Ok.is (c.sweep_each.ensures.ok c.args.lambda c.in_ok-arena.ensures.stands c.requires.well_formed) in
    let first = logged c.args.lambda c.args.log.now.items in
    IfOk-weaker c.into_lambda.result _ IsWellFormed
    (λ made e. subst IsWellFormed (sym e) (each_keeps c.rules_keep.ensures c.args.sweeps.now first c.requires.well_formed))
    (c.into_lambda.ensures.stands (swept_each c.args.sweeps.now first).lambda h.0)

pub returns-in-Ok-clause-err : goal.returns-in-Ok-clause-err
returns-in-Ok-clause-err g c =
    let h = on_ok c.sweep_each.result _ c.in-Ok.is (c.sweep_each.ensures.ok c.args.lambda c.in_ok-arena.ensures.stands c.requires.well_formed) in
    on_err _ c.into_lambda.result (each_has_added c.args.sweeps.now c.args.lambda c.args.log.now.items c.sweep_each.new.log.items c.sweep_each.new.arena h)

pub returns-clause-err : goal.returns-clause-err
returns-clause-err g c = at_err c.sweep_each.result _ c.in-Err.is c.sweep_each.ensures.err
