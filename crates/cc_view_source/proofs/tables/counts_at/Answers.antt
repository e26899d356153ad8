use Rattle.std.proofs.Common.{[], Some, map, sym, ap, subst, ◌∙◌, arith}
use Rattle.std.specs.Prelude.{unwrap_or}
use Rattle.std.specs.Arc.{arc_value}
use Rattle.std.proofs.lemmas.List.{length-map}
use Rattle.std.proofs.lemmas.Option.{slice_get-get_or}
use Rattle.std.proofs.lemmas.Result.{IfOk-weaker}
use Rattle.g_graph.specs.Plain.{PlainLambda}
use Rattle.g_graph.specs.WellFormed.{IsWellFormed}
use Rattle.g_pass_def.specs.Answers.{lambdas_of}
use Rattle.g_pass_order.specs.Calls.{no_lambda}
use Rattle.g_pass.specs.Counts.{counts_of}
use Rattle.g_pass.specs.Sweep.{rules}
use Rattle.cc_view_source.proofs.tables.counts_at.Goals as goal

pub callees_at-requires-clause-answered : goal.callees_at-requires-clause-answered
callees_at-requires-clause-answered c = omega (arith, c.requires.are.count, length-map c.args.answers.now arc_value)

pub sweep_counts-requires : goal.sweep_counts-requires
sweep_counts-requires c =
    let l = c.index-lambdas-function.result in
    let at = slice_get-get_or c.args.lambdas.now c.args.function l c.requires.inside ∙ ap (λ (k : PlainLambda). Some k) (sym c.index-lambdas-function.is) in
    subst IsWellFormed (sym c.in_ok-lambda.ensures) (c.requires.complete.well_formed c.args.function l at)

pub returns : goal.returns
returns c =
    let ls = c.args.lambdas.now in
    let l = c.index-lambdas-function.result in
    let recipe = c.args.recipe.now in
    let callees = lambdas_of (map arc_value c.in_ok-callees.callees.items) in
    let at = slice_get-get_or ls c.args.function l c.requires.inside ∙ ap (λ (k : PlainLambda). Some k) (sym c.index-lambdas-function.is) in
    let same = c.in_ok-lambda.ensures ∙ ap (λ o. unwrap_or o no_lambda) (sym at) in
    let given = ap (λ xs. lambdas_of (map arc_value xs)) c.deref.ensures.value in
    IfOk-weaker c.sweep_counts.result _ _
    (λ counts is. (
      callees,
      c.in_ok-callees.ensures recipe c.requires.are c.requires.inside,
      is
          ∙ (ap (λ cs. counts_of rules cs (record { lambda = c.in_ok-lambda.lambda; steps = [] }) recipe) given
          ∙ ap (λ (k : PlainLambda). counts_of rules callees (record { lambda = k; steps = [] }) recipe) same),
    ))
    c.sweep_counts.ensures
