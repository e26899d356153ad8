use Rattle.std.proofs.Common.{sym, ap, subst, ◌∙◌}
use Rattle.g_graph.specs.Plain.{PlainLambda}
use Rattle.g_graph.specs.contracts.lambda.Lambda as Lambda
use Rattle.r_edit.specs.Steps.{MayStandFor}
use Rattle.r_invert.proofs.Kept.{invert_is_a_step}
use Rattle.r_invert.proofs.Applied.{body-is, applies-finds, next-fits, invert-is}
use Rattle.r_invert.proofs.rule.apply.Goals as goal

pub part_of-requires-clause-found : goal.part_of-requires-clause-found
part_of-requires-clause-found c = applies-finds c.values-values.result c.args.node c.args.lambda.now c.values-values.ensures c.requires.applies

pub next_of-lambda-inside-requires : goal.next_of-lambda-inside-requires
next_of-lambda-inside-requires c =
    next-fits c.values-values.result c.args.node c.args.lambda.now c.in_ok-part.part
    (body-is c.values-values.result c.args.node c.args.lambda.now c.in_ok-part.part c.values-values.ensures c.requires.well_formed c.in_ok-part.ensures)
    (Lambda.the_view c.lambda-2.inside) c.lambda.inside.next (c.lambda-2.view_is ∙ c.in_ok-change_lambda.ensures.ok) (ap (λ (k : PlainLambda). k.next) c.lambda.view_is)

pub returns-clause-ok : goal.returns-clause-ok
returns-clause-ok c =
    invert-is c.values-values.result c.args.node c.args.lambda.now c.in_ok-part.part
    (body-is c.values-values.result c.args.node c.args.lambda.now c.in_ok-part.part c.values-values.ensures c.requires.well_formed c.in_ok-part.ensures)
    (Lambda.the_view c.lambda-2.inside) c.lambda.inside.next (c.lambda-2.view_is ∙ c.in_ok-change_lambda.ensures.ok) (ap (λ (k : PlainLambda). k.next) c.lambda.view_is)
    c.next_of-lambda-inside.result c.next_of-lambda-inside.ensures

pub returns-clause-step : goal.returns-clause-step
returns-clause-step c =
    λ held. subst (λ (l : PlainLambda). MayStandFor held c.args.lambda.now l) (sym (returns-clause-ok c)) (invert_is_a_step held c.args.node c.args.lambda.now c.requires.well_formed)
