-- What a recipe made of a lambda, and how the logic stores it.
use Rattle.std.proofs.Common.{ℕ, List, refl}
use Rattle.std.specs.Coded.{Coded, code_by, coded×, coded_ℕ, coded_list}
use Rattle.g_graph.specs.Codes.{coded_lambda}
use Rattle.g_graph.specs.Plain.{PlainLambda}
use Rattle.r_rule.specs.contracts.steps.Step as step
use Rattle.r_rule.specs.declared.steps.Step.{Step}

-- what a recipe made of a lambda, the steps that led there, and the number of values before them
pub record PlainOptimised : Type 0 where
  pub lambda : PlainLambda
  pub steps : List Step
  pub before : ℕ

abbrev pub coded_steps : Coded (List Step)
coded_steps = coded_list step.the_row.coded

abbrev pub coded_optimised : Coded PlainOptimised
coded_optimised =
    code_by (PlainLambda × (List Step × ℕ)) (coded× coded_lambda (coded× coded_steps coded_ℕ)) (λ o. (o.lambda, (o.steps, o.before)))
    (λ p. record { lambda = p.0; steps = p.1.0; before = p.1.1 }) (λ _. refl)
