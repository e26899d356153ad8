-- Recipes of the rules keep lists of lambdas.
use Rattle.std.specs.Prelude.{◌≡◌, ℕ, ◌+◌, ◌*◌, ◌≤◌, List, Some, slice_get, slice_set}
use Rattle.std.specs.List.{sum_by, AllByRecursion}
use Rattle.base.specs.Limits.{most_functions, most_program_values, most_grown_values}
use Rattle.r_rule.specs.declared.steps.Rule.{Rule}
use Rattle.g_graph.specs.Lists.{IsComplete}
use Rattle.g_graph.specs.Plain.{PlainLambda, PlainOmega}
use Rattle.r_rule.specs.Optimised.{PlainOptimised}
use Rattle.g_graph.specs.Program.{lambda_values, IsProgram, IsWithinLimits}
use Rattle.g_graph.specs.WellFormed.{IsWellFormed}
use Rattle.g_mean.specs.Replacement.{FunctionsKeepMeaning, ProgramKeepsMeaning}
use Rattle.r_edit.specs.Steps.{HasEach}
use Rattle.g_pass_def.specs.Answers.{AreAnswers, lambdas_of}
use Rattle.g_pass_def.specs.Kept.{IsKeptBy}
use Rattle.g_pass_def.specs.Laws.{AreSteps}
use Rattle.g_pass.specs.Sweep.{rules}

-- Each rule makes a step wherever it applies.
abbrev pub RulesAreSteps : Type 0
RulesAreSteps = AreSteps rules

-- Where one rule changes a well-formed lambda of a list, with well-formed callees of the list, every function keeps its
-- meaning, and so does every program: each bounded run is within one of the other list at twice its bound and two more.
abbrev pub RulesKeepMeaning : Type 0
RulesKeepMeaning =
    (r : Rule) (callees ls : List PlainLambda) (n f : ℕ) (l k : PlainLambda) → IsWellFormed l → AllByRecursion IsWellFormed callees → HasEach callees ls →
    slice_get ls f ≡ Some l → rules.step r callees n l ≡ Some k → FunctionsKeepMeaning ls (slice_set ls f k) × ProgramKeepsMeaning ls (slice_set ls f k)

-- A complete list is kept by its answers under a recipe,
abbrev pub AnswersKeepLists : Type 0
AnswersKeepLists =
    (recipe : List Rule) (ls : List PlainLambda) (answers : List PlainOptimised) → IsComplete ls → AreAnswers rules recipe ls answers → IsKeptBy ls (lambdas_of answers)

-- and the answers of the lambdas of an image are those of an image, where the lambdas are small enough.
abbrev pub AnswersFitImages : Type 0
AnswersFitImages =
    (omega : PlainOmega) (recipe : List Rule) (ls : List PlainLambda) (answers : List PlainOptimised) → AreAnswers rules recipe ls answers → IsProgram omega ls →
    IsWithinLimits omega ls → most_functions * most_grown_values + sum_by lambda_values ls ≤ most_program_values →
    IsProgram omega (lambdas_of answers) × IsWithinLimits omega (lambdas_of answers)
