use Rattle.std.proofs.Common.{sym, subst}
use Rattle.g_graph.specs.Plain.{PlainLambda}
use Rattle.r_edit.specs.Steps.{MayStandFor}
use Rattle.r_edit.proofs.lemmas.Steps.{changed_is_a_step}
use Rattle.r_edit.proofs.rule.apply.Goals as goal

pub returns-clause-step : goal.returns-clause-step
returns-clause-step g c =
    λ held. subst (λ (l : PlainLambda). MayStandFor held c.args.lambda.now l) (sym c.in_ok-change_lambda.ensures.ok)
    (changed_is_a_step (g.R.RegionRule.here c.args.rule.now) c.args.lambda.now c.requires.well_formed c.requires.stays c.requires.safe held)
