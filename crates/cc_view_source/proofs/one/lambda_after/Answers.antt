use Rattle.std.proofs.Common.{◌<◌, ◌≤◌, Some, length, map, take, sym, ap, ◌∙◌, arith}
use Rattle.std.specs.Prelude.{unwrap_or}
use Rattle.std.specs.Arc.{arc_value}
use Rattle.std.proofs.lemmas.List.{length-map}
use Rattle.std.proofs.lemmas.Option.{slice_get-get_or}
use Rattle.std.proofs.lemmas.Result.{IfOk-weaker}
use Rattle.g_graph.specs.Plain.{PlainLambda}
use Rattle.r_rule.specs.Optimised.{PlainOptimised}
use Rattle.g_pass_order.specs.Calls.{no_lambda}
use Rattle.g_pass_def.specs.Answers.{lambdas_of}
use Rattle.cc_view_source.proofs.Replays.{none_after, shown_after}
use Rattle.cc_view_source.proofs.one.lambda_after.Goals as goal

pub order-requires-clause-known : goal.order-requires-clause-known
order-requires-clause-known c = c.complete_lists_know_calls.ensures c.args.lambdas.now c.requires.complete

pub replayed-requires : goal.replayed-requires
replayed-requires c =
    let l = c.index-lambdas-function.result in
    let within : c.args.function < length c.args.lambdas.now = omega (arith, c.requires.inside, c.requires.are.1.count, length-map c.args.answers.now arc_value) in
    c.requires.complete.well_formed c.args.function l (slice_get-get_or c.args.lambdas.now c.args.function l within ∙ ap (λ (k : PlainLambda). Some k) (sym c.index-lambdas-function.is))

pub returns-clause-some : goal.returns-clause-some
returns-clause-some c =
    let ls = c.args.lambdas.now in
    let f = c.args.function in
    let l = c.index-lambdas-function.result in
    let a = c.answer_at-answer.result.now in
    let within : f < length ls = omega (arith, c.requires.inside, c.requires.are.1.count, length-map c.args.answers.now arc_value) in
    let steps = c.as_slice-steps.ensures ∙ ap (λ (o : PlainOptimised). o.steps) c.answer.view_is in
    let few : c.args.count ≤ length a.steps = omega (arith, c.if-count-steps.false, ap length steps) in
    let at = slice_get-get_or ls f l within ∙ ap (λ (k : PlainLambda). Some k) (sym c.index-lambdas-function.is) in
    IfOk-weaker c.replayed.result _ _
    (λ o is.
    shown_after ls (map arc_value c.args.answers.now) f c.args.count a c.answer_at-answer.ensures (lambdas_of (map arc_value c.in_ok-callees.callees.items)) (lambdas_of (map arc_value c.deref.result.now))
    (λ recipe are. c.in_ok-callees.ensures recipe are within) (ap (λ xs. lambdas_of (map arc_value xs)) c.deref.ensures.value) _
    (ap (take c.args.count) steps) l (ap (λ o. unwrap_or o no_lambda) (sym at)) few o is)
    c.replayed.ensures

pub returns-clause-none : goal.returns-clause-none
returns-clause-none c =
    let ls = c.args.lambdas.now in
    let f = c.args.function in
    let l = c.index-lambdas-function.result in
    let a = c.answer_at-answer.result.now in
    let within : f < length ls = omega (arith, c.requires.inside, c.requires.are.1.count, length-map c.args.answers.now arc_value) in
    let steps = c.as_slice-steps.ensures ∙ ap (λ (o : PlainOptimised). o.steps) c.answer.view_is in
    let at = slice_get-get_or ls f l within ∙ ap (λ (k : PlainLambda). Some k) (sym c.index-lambdas-function.is) in
    IfOk-weaker c.replayed.result _ _
    (λ o is.
    none_after ls (map arc_value c.args.answers.now) f c.args.count a c.answer_at-answer.ensures (lambdas_of (map arc_value c.in_ok-callees.callees.items)) (lambdas_of (map arc_value c.deref.result.now))
    (λ recipe are. c.in_ok-callees.ensures recipe are within) (ap (λ xs. lambdas_of (map arc_value xs)) c.deref.ensures.value) _
    (ap (take c.args.count) steps) l (ap (λ o. unwrap_or o no_lambda) (sym at)) c.recipes_are_steps.ensures.same c.requires.are o is)
    c.replayed.ensures
