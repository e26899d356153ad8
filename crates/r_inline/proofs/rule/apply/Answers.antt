use Rattle.std.proofs.Common.{◌+◌, ap₂, sym, subst, ◌∙◌}
use Rattle.g_graph.specs.Plain.{PlainLambda}
use Rattle.g_graph.specs.contracts.lambda.Lambda as Lambda
use Rattle.g_mean.specs.Copies.{IsClosed}
use Rattle.r_edit.specs.Numbering.{node_count, region_numbered}
use Rattle.r_inline.proofs.Copied.{body-closed, inline-is, inline-step}
use Rattle.r_inline.proofs.rule.apply.Goals as goal

pub copy_numbered-requires-clause-closed : goal.copy_numbered-requires-clause-closed
copy_numbered-requires-clause-closed c =
    subst (λ (k : PlainLambda). IsClosed k.body) (sym c.callee.view_is) (body-closed c.args.node c.args.callee.now c.args.lambda.now c.requires.callee c.requires.applies)

pub returns-clause-ok : goal.returns-clause-ok
returns-clause-ok c =
    inline-is c.args.node c.args.callee.now c.args.lambda.now (Lambda.the_view c.lambda-2.inside) c.in_ok-copy.copy.region c.in_ok-copy.copy.next
    (c.in_ok-copy.ensures.copy ∙ ap₂ (λ (l k : PlainLambda). region_numbered l.next k.body) c.lambda.view_is c.callee.view_is)
    (c.in_ok-copy.ensures.next ∙ ap₂ (λ (l k : PlainLambda). l.next + node_count k.body) c.lambda.view_is c.callee.view_is)
    (c.lambda-2.view_is ∙ c.in_ok-change_lambda.ensures.ok)

pub returns-clause-step : goal.returns-clause-step
returns-clause-step c =
    inline-step c.args.node c.args.callee.now c.args.lambda.now (Lambda.the_view c.lambda-2.inside) c.in_ok-copy.copy.next c.requires.callee
    c.requires.well_formed c.requires.applies (returns-clause-ok c)
