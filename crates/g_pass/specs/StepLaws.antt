-- Laws of the steps that recipes of the rules take.
use Rattle.std.specs.Prelude.{◌≡◌, ℕ, ◌+◌, ◌*◌, ◌<◌, ◌≤◌, ◌^◌, List, length, Some, slice_get}
use Rattle.std.specs.List.{AllByRecursion}
use Rattle.base.specs.Limits.{most_grown_values}
use Rattle.r_rule.specs.declared.steps.Rule.{Rule}
use Rattle.r_rule.specs.declared.steps.Step.{Step}
use Rattle.g_graph.specs.Plain.{PlainLambda}
use Rattle.r_rule.specs.Optimised.{PlainOptimised}
use Rattle.g_graph.specs.Lists.{IsComplete}
use Rattle.g_graph.specs.Program.{lambda_values}
use Rattle.g_graph.specs.WellFormed.{IsWellFormed}
use Rattle.g_pass_def.specs.Answers.{AreAnswers}
use Rattle.g_pass.specs.Sweep.{rules}

-- the number of the next node has 32 bits
abbrev pub HasNumbers : PlainLambda → Type 0
HasNumbers l = l.next < 2 ^ 32

-- The next number of a lambda still has 32 bits where a rule has changed it.
abbrev pub RulesKeepNumbers : Type 0
RulesKeepNumbers =
    (r : Rule) (callees : List PlainLambda) (n : ℕ) (l k : PlainLambda) → IsWellFormed l → HasNumbers l → rules.step r callees n l ≡ Some k → HasNumbers k

-- The steps are at nodes whose numbers have 32 bits. A sweep takes one step at each node at most, and a node has two
-- values at least, in a lambda that has at most as many values as it had, or as one that has grown.
pub record AreFewSteps (recipe : List Rule) (l : PlainLambda) (steps : List Step) : Type 0 where
  pub numbers : AllByRecursion (λ (s : Step). s.node < 2 ^ 32) steps
  pub few : 2 * length steps ≤ length recipe * (most_grown_values + lambda_values l)

-- So it is of each answer of a complete list whose lambdas have numbers of 32 bits.
abbrev pub AnswersHaveFewSteps : Type 0
AnswersHaveFewSteps =
    (recipe : List Rule) (ls : List PlainLambda) (answers : List PlainOptimised) → IsComplete ls → ((f : ℕ) (l : PlainLambda) → slice_get ls f ≡ Some l → HasNumbers l) →
    AreAnswers rules recipe ls answers → (f : ℕ) (l : PlainLambda) (a : PlainOptimised) → slice_get ls f ≡ Some l → slice_get answers f ≡ Some a → AreFewSteps recipe l a.steps
