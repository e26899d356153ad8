use Rattle.std.proofs.Common.{sym, subst}
use Rattle.g_graph.specs.Plain.{PlainLambda}
use Rattle.r_edit.specs.Steps.{MayStandFor}
use Rattle.r_pull.proofs.Step.{pull_is_a_step}
use Rattle.r_pull.proofs.rule.apply.Goals as goal

pub returns-clause-step : goal.returns-clause-step
returns-clause-step c =
    λ held. subst (λ (l : PlainLambda). MayStandFor held c.args.lambda.now l) (sym c.in_ok-pull.ensures.ok) (pull_is_a_step held c.args.node c.args.lambda.now c.requires.well_formed)
