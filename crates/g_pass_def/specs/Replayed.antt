-- What steps make of a list of lambdas, a list of steps for each of them, whoever wrote the steps.
use Rattle.std.specs.Prelude.{◌≡◌, ℕ, ◌<◌, List, [], map, length, slice_get, slice_index_or}
use Rattle.r_rule.specs.declared.steps.Step.{Step}
use Rattle.g_graph.specs.Plain.{PlainLambda}
use Rattle.g_pass_order.specs.Calls.{IsOrder}
use Rattle.g_pass_def.specs.Sweep.{RuleTable, replayed}
use Rattle.g_pass_def.specs.Answers.{lambda_of}

-- what a list has at these numbers
abbrev pub lambdas_at : List PlainLambda → (numbers : List ℕ) → List PlainLambda
lambdas_at ks numbers = map (lambda_of ks) numbers

-- what the steps of function j make of its lambda, given what `ks` has at its deps, stands in `ks` at j
abbrev pub IsReplayed : RuleTable → (ls : List PlainLambda) → (deps : List (List ℕ)) → (steps : List (List Step)) → (ks : List PlainLambda) → (j : ℕ) → Type 0
IsReplayed t ls deps steps ks j =
    replayed t (lambdas_at ks (slice_index_or deps j [])) (slice_index_or steps j []) (lambda_of ls j) ≡ slice_get ks j

-- Each lambda of `ks` is what its steps make of the one of `ls` in its place.
pub record AreReplayed (t : RuleTable) (ls : List PlainLambda) (steps : List (List Step)) (ks : List PlainLambda) : Type 0 where
  pub ranks : List ℕ
  pub deps : List (List ℕ)
  pub order : IsOrder ls ranks deps
  pub count : length ks ≡ length ls
  pub each : (j : ℕ) → j < length ls → IsReplayed t ls deps steps ks j
