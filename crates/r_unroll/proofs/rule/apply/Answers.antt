use Rattle.std.specs.Prelude.{is_some, option_map}
use Rattle.std.proofs.Common.{◌≡◌, true, sym, ap, subst, ◌∙◌}
use Rattle.g_graph.specs.Plain.{PlainLambda}
use Rattle.g_graph.specs.Change.{lambda_changed}
use Rattle.g_graph.specs.contracts.lambda.Lambda as Lambda
use Rattle.g_mean.specs.Copies.{IsClosed}
use Rattle.r_edit.specs.Found.{region_found}
use Rattle.r_edit.specs.Steps.{MayStandFor}
use Rattle.r_unroll.specs.Edit.{loop_at, followed_at, results_after, next_after}
use Rattle.r_unroll.specs.Rule.{second_turn_of}
use Rattle.r_unroll.proofs.Kept.{unroll_is_a_step}
use Rattle.r_unroll.proofs.Made.{body-closed, applies-finds, unroll-is}
use Rattle.r_unroll.proofs.rule.apply.Goals as goal

pub turn_of-requires-clause-closed : goal.turn_of-requires-clause-closed
turn_of-requires-clause-closed c = subst (λ (k : PlainLambda). IsClosed k.body) (sym c.lambda.view_is) (body-closed c.args.lambda.now c.requires.well_formed)

pub turn_of-requires-clause-found : goal.turn_of-requires-clause-found
turn_of-requires-clause-found c =
    subst (λ (k : PlainLambda). is_some (region_found (loop_at c.values-values.result k.next c.args.node) k.body) ≡ true) (sym c.lambda.view_is)
    (applies-finds c.values-values.result c.args.node c.args.lambda.now c.values-values.ensures c.requires.applies)

pub returns-clause-ok : goal.returns-clause-ok
returns-clause-ok c =
    unroll-is c.values-values.result c.args.node c.args.lambda.now (Lambda.the_view c.lambda-2.inside) c.in_ok-turn.turn.last c.in_ok-turn.turn.results.items c.in_ok-turn.turn.next
    c.values-values.ensures c.requires.well_formed
    (ap (λ (k : PlainLambda). option_map (second_turn_of k.next) (region_found (loop_at c.values-values.result k.next c.args.node) k.body)) (sym c.lambda.view_is) ∙ c.in_ok-turn.ensures.last)
    (ap (λ (k : PlainLambda). option_map (results_after k.next) (region_found (loop_at c.values-values.result k.next c.args.node) k.body)) (sym c.lambda.view_is) ∙ c.in_ok-turn.ensures.results)
    (ap (λ (k : PlainLambda). option_map (next_after k.next) (region_found (loop_at c.values-values.result k.next c.args.node) k.body)) (sym c.lambda.view_is) ∙ c.in_ok-turn.ensures.next)
    (c.lambda-2.view_is ∙ c.in_ok-change_lambda.ensures.ok
    ∙ ap (λ (k : PlainLambda). lambda_changed (followed_at c.values-values.result k.next c.args.node c.in_ok-turn.turn.last c.in_ok-turn.turn.results.items) c.args.lambda.now) c.lambda.view_is)

pub returns-clause-step : goal.returns-clause-step
returns-clause-step c =
    λ held. subst (λ (l : PlainLambda). MayStandFor held c.args.lambda.now l) (sym (returns-clause-ok c)) (unroll_is_a_step held c.args.node c.args.lambda.now c.requires.well_formed)
