-- The lambdas of a list as jobs of a board.
use Rattle.std.specs.Prelude.{List, refl}
use Rattle.std.specs.Coded.{Coded, code_by, coded×, coded_list}
use Rattle.r_rule.specs.declared.steps.Rule.{Rule}
use Rattle.r_rule.specs.contracts.steps.Rule as rule
use Rattle.g_graph.specs.Plain.{PlainLambda}
use Rattle.g_graph.specs.Codes.{coded_lambda}

-- the lambdas, and the rules of the recipe that each of them is put through
pub record Jobs : Type 0 where
  pub lambdas : List PlainLambda
  pub recipe : List Rule

abbrev pub coded_jobs : Coded Jobs
coded_jobs =
    code_by (List PlainLambda × List Rule) (coded× (coded_list coded_lambda) (coded_list rule.the_row.coded)) (λ j. (j.lambdas, j.recipe))
    (λ p. record { lambdas = p.0; recipe = p.1 }) (λ _. refl)
