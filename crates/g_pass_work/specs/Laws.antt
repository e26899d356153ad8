-- Laws of stale functions.
use Rattle.std.specs.Prelude.{◌≡◌, ℕ, ◌↔◌, List, [], slice_get, slice_index_or, Contains}
use Rattle.r_rule.specs.declared.steps.Rule.{Rule}
use Rattle.g_graph.specs.Plain.{PlainLambda}
use Rattle.r_rule.specs.Optimised.{PlainOptimised}
use Rattle.g_pass_def.specs.Sweep.{RuleTable}
use Rattle.g_pass_def.specs.Answers.{AreAnswers}
use Rattle.g_pass_work.specs.Stale.{IsUnchanged, IsUnstale}

-- A function is stale exactly where it has changed or one of its deps is stale.
abbrev pub StalenessComesOfDeps : Type 0
StalenessComesOfDeps =
    (old : List PlainLambda) (old_deps : List (List ℕ)) (new : List PlainLambda) (deps : List (List ℕ)) (j : ℕ) →
    IsUnstale old old_deps new deps j ↔ (IsUnchanged old old_deps new deps j × ((d : ℕ) → Contains (slice_index_or deps j []) d → IsUnstale old old_deps new deps d))

-- A function that is not stale has the answer that it had, whatever the table and the recipe.
abbrev pub UnstaleAnswersAreKept : Type 0
UnstaleAnswersAreKept =
    (t : RuleTable) (rules : List Rule) (old new : List PlainLambda) (xs ys : List PlainOptimised) (before : AreAnswers t rules old xs) (now : AreAnswers t rules new ys) (j : ℕ) →
    IsUnstale old before.deps new now.deps j → slice_get ys j ≡ slice_get xs j
