use Rattle.std.proofs.Common.{◌+◌, ap, ◌∙◌}
use Rattle.g_graph.specs.Plain.{PlainLambda}
use Rattle.r_pull.proofs.Saturated.{pulled_lambda}
use Rattle.r_pull.proofs.rule.pull.Goals as goal

pub returns-clause-ok : goal.returns-clause-ok
returns-clause-ok c =
    let next = c.lambda.inside.next in
    ap (λ (z : PlainLambda). record z { next = next + c.args.copies }) c.lambda-2.view_is
    ∙ pulled_lambda c.values-values.result c.args.node c.args.copies next c.args.lambda.now c.change_lambda.new.lambda c.values-values.ensures c.requires.copies
    (ap (λ (z : PlainLambda). z.next) c.lambda.view_is) c.in_ok-change_lambda.ensures.ok
