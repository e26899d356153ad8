-- What every function of a list of lambdas is made into: `optimise` of its lambda, given what its deps are made into.
use Rattle.std.specs.Prelude.{◌≡◌, ℕ, ◌<◌, List, map, length, unwrap_or, slice_get}
use Rattle.board_core.specs.Board.{Program}
use Rattle.board_core.specs.Answers.{answer}
use Rattle.r_rule.specs.declared.steps.Rule.{Rule}
use Rattle.g_graph.specs.Plain.{PlainLambda}
use Rattle.r_rule.specs.Optimised.{PlainOptimised}
use Rattle.g_pass_order.specs.Calls.{no_lambda, IsOrder}
use Rattle.g_pass_def.specs.Sweep.{RuleTable, optimise}

abbrev pub lambdas_of : List PlainOptimised → List PlainLambda
lambdas_of made = map (λ (o : PlainOptimised). o.lambda) made

abbrev pub lambda_of : List PlainLambda → (number : ℕ) → PlainLambda
lambda_of ls j = unwrap_or (slice_get ls j) no_lambda

abbrev pub made : RuleTable → List Rule → List PlainLambda → (j : ℕ) → (callees : List PlainOptimised) → PlainOptimised
made t rules ls j callees = optimise t (lambdas_of callees) rules (lambda_of ls j)

-- the lambdas as jobs, which so many workers do
abbrev pub program : RuleTable → List Rule → List PlainLambda → (ranks : List ℕ) → (deps : List (List ℕ)) → (workers : ℕ) → Program PlainOptimised
program t rules ls ranks deps workers = record { ranks = ranks; deps = deps; workers = workers; made = made t rules ls }

-- the answers of all lambdas, by the recursion on ranks; the number of workers says nothing of them, so it is 1
pub record AreAnswers (t : RuleTable) (rules : List Rule) (ls : List PlainLambda) (answers : List PlainOptimised) : Type 0 where
  pub ranks : List ℕ
  pub deps : List (List ℕ)
  pub order : IsOrder ls ranks deps
  pub count : length answers ≡ length ls
  pub each : (j : ℕ) → j < length ls → slice_get answers j ≡ answer (program t rules ls ranks deps 1) j
