-- When what a log says of functions is right, whoever wrote it.
use Rattle.std.specs.Prelude.{◌≡◌, ℕ, ◌<◌, ◌⊎◌, List, [], map, length, slice_index, slice_index_or}
use Rattle.r_rule.specs.declared.steps.Step.{Step}
use Rattle.g_graph.specs.Plain.{PlainLambda}
use Rattle.g_graph.specs.Program.{lambda_values}
use Rattle.g_pass_def.specs.Answers.{lambda_of}
use Rattle.g_pass_def.specs.Replayed.{AreReplayed, IsReplayed}
use Rattle.g_pass.specs.Sweep.{rules}
use Rattle.log_check.specs.Log.{PlainPart}

-- stands for what a log says of a function that it does not have
abbrev pub no_part : PlainPart
no_part = record { name = []; line = 0; before = 0; after = 0; steps = [] }

abbrev pub part_at : List PlainPart → (function : ℕ) → PlainPart
part_at log j = slice_index_or log j no_part

abbrev pub steps_of : List PlainPart → List (List Step)
steps_of log = map (λ (p : PlainPart). p.steps) log

-- The log counts the values of the lambda as it is, and of what comes in its place.
pub record HasCounts (p : PlainPart) (l k : PlainLambda) : Type 0 where
  pub before : p.before ≡ lambda_values l
  pub after : p.after ≡ lambda_values k

-- The lambdas `ks` are what the log's steps make of `ls`, each given those of its deps, and the log has the counts of both.
pub record AreRight (ls : List PlainLambda) (log : List PlainPart) (ks : List PlainLambda) : Type 0 where
  pub replayed : AreReplayed rules ls (steps_of log) ks
  pub counts : (j : ℕ) → j < length ls → HasCounts (part_at log j) (lambda_of ls j) (lambda_of ks j)

-- ---- one function after the other

-- what the log says of function j
pub record IsRight (ls : List PlainLambda) (deps : List (List ℕ)) (log : List PlainPart) (ks : List PlainLambda) (j : ℕ) : Type 0 where
  pub replayed : IsReplayed rules ls deps (steps_of log) ks j
  pub counts : HasCounts (part_at log j) (lambda_of ls j) (lambda_of ks j)

-- Functions are taken by rank, and within a rank by number: d is taken before those of this rank from function j on.
abbrev pub IsTaken : (ranks : List ℕ) → (rank j d : ℕ) → Type 0
IsTaken ranks rank j d = (slice_index ranks d < rank) ⊎ ((slice_index ranks d ≡ rank) × (d < j))

-- what the log says of the functions that are taken before
pub record AreRightUntil (ls : List PlainLambda) (ranks : List ℕ) (deps : List (List ℕ)) (log : List PlainPart) (rank j : ℕ) (ks : List PlainLambda) : Type 0 where
  pub count : length ks ≡ length ls
  pub each : (d : ℕ) → d < length ls → IsTaken ranks rank j d → IsRight ls deps log ks d
