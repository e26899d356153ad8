use Rattle.std.specs.Prelude.{is_some}
use Rattle.std.proofs.Common.{ap, ◌∙◌}
use Rattle.g_graph.specs.Change.{region_changed}
use Rattle.g_graph.specs.Program.{lambda_values}
use Rattle.r_invert.specs.Rule.{invert_here}
use Rattle.r_invert.proofs.Counted.{invert-same}
use Rattle.r_invert.proofs.rule.applies.Goals as goal

pub returns : goal.returns
returns c =
    c.applies_in.ensures
    ∙ ap (λ h. is_some (region_changed h c.args.lambda.now.body))
    (ap (λ v. invert_here v c.args.lambda.now.next c.args.node) c.values.ensures ∙ invert-same (lambda_values c.args.lambda.now) c.args.lambda.now.next c.args.node)
