use Rattle.std.specs.Prelude.{is_some}
use Rattle.std.proofs.Common.{ap, ◌∙◌}
use Rattle.g_graph.specs.Change.{region_changed}
use Rattle.g_graph.specs.Program.{lambda_values}
use Rattle.r_push.specs.Rule.{push_here}
use Rattle.r_push.proofs.Saturated.{limit_same}
use Rattle.r_push.proofs.rule.applies.Goals as goal

pub returns : goal.returns
returns c =
    c.applies.ensures
    ∙ ap (λ h. is_some (region_changed h c.args.lambda.now.body))
    (ap (λ v. push_here v c.args.node) c.values.ensures ∙ limit_same (lambda_values c.args.lambda.now) c.args.node)
