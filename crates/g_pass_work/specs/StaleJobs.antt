-- The stale functions of a list of lambdas as jobs of a board.
use Rattle.std.specs.Prelude.{◌≡◌, ◌<◌, ◌^◌, ℕ, Bool, List, [], length, Some, slice_get, slice_index, slice_index_or, refl}
use Rattle.std.specs.Coded.{Coded, code_by, coded×, coded_bool, coded_list, coded_ℕ}
use Rattle.r_rule.specs.declared.steps.Rule.{Rule}
use Rattle.r_rule.specs.contracts.steps.Rule as rule
use Rattle.g_graph.specs.Plain.{PlainLambda}
use Rattle.r_rule.specs.Optimised.{PlainOptimised}
use Rattle.g_graph.specs.Codes.{coded_lambda}
use Rattle.r_rule.specs.Optimised.{coded_optimised}
use Rattle.g_graph.specs.Program.{lambda_values}
use Rattle.g_graph.specs.WellFormed.{IsWellFormed}
use Rattle.g_pass_def.specs.Sweep.{RuleTable}
use Rattle.g_pass_def.specs.Answers.{made}
use Rattle.g_pass_work.specs.Renewal.{functions_of, merged}

-- The lambdas, the rules of the recipe, which functions are stale, the deps of all functions, and the kept answers.
pub record Jobs : Type 0 where
  pub lambdas : List PlainLambda
  pub recipe : List Rule
  pub stale : List Bool
  pub deps : List (List ℕ)
  pub kept : List PlainOptimised

abbrev pub coded_jobs : Coded Jobs
coded_jobs =
    code_by (List PlainLambda × (List Rule × (List Bool × (List (List ℕ) × List PlainOptimised))))
    (coded× (coded_list coded_lambda) (coded× (coded_list rule.the_row.coded) (coded× (coded_list coded_bool) (coded× (coded_list (coded_list coded_ℕ)) (coded_list coded_optimised)))))
    (λ j. (j.lambdas, (j.recipe, (j.stale, (j.deps, j.kept)))))
    (λ p. record { lambdas = p.0; recipe = p.1.0; stale = p.1.1.0; deps = p.1.1.1.0; kept = p.1.1.1.1 }) (λ _. refl)

-- the functions are the stale ones in order; all have their deps, and lambdas that a recipe may change
pub record AreJobs (lambdas : List PlainLambda) (functions : List ℕ) (stale : List Bool) (deps : List (List ℕ)) : Type 0 where
  pub functions_are : functions ≡ functions_of stale
  pub all_stale : length stale ≡ length lambdas
  pub all_deps : length deps ≡ length lambdas
  pub well_formed : (j : ℕ) (l : PlainLambda) → slice_get lambdas j ≡ Some l → IsWellFormed l
  pub small : (j : ℕ) (l : PlainLambda) → slice_get lambdas j ≡ Some l → lambda_values l < 2 ^ 32

-- the result of a job: what the recipe makes of its function, given the answers of its deps
abbrev pub made_anew : RuleTable → Jobs → (job : ℕ) → (given : List PlainOptimised) → PlainOptimised
made_anew t work job given =
    let j = slice_index (functions_of work.stale) job in made t work.recipe work.lambdas j (merged work.stale work.kept (slice_index_or work.deps j []) given)
