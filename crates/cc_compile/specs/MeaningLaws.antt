-- Laws of the meaning of images.
use Rattle.std.specs.Prelude.{ℕ, Bool, List}
use Rattle.c_typed.specs.Typed.{ProgramTree}
use Rattle.r_rule.specs.declared.steps.Rule.{Rule}
use Rattle.g_graph.specs.Plain.{PlainLambda}
use Rattle.r_rule.specs.Optimised.{PlainOptimised}
use Rattle.g_build_def.specs.Functions.{graph, omega}
use Rattle.g_build_keeps.specs.Laws.{HasMeaning}
use Rattle.g_pass_def.specs.Answers.{AreAnswers}
use Rattle.g_pass_def.specs.Laws.{HoldsDeps, with_answers}
use Rattle.g_pass.specs.Sweep.{rules}
use Rattle.s_linear.specs.declared.frame.CodeForm.{CodeForm}
use Rattle.cc_emit.specs.Image.{file_of_program, lambdas_of}
use Rattle.cc_source.specs.SourceLaws.{AreBytes}
use Rattle.cc_source.specs.Accepted.{Accepts}
use Rattle.cc_source.specs.Meaning.{KeepsMeaning}

-- The image of a source that is accepted, in each form of code, does what its program does.
abbrev pub AcceptedSourcesKeepMeaning : Type 0
AcceptedSourcesKeepMeaning =
    (form : CodeForm) (source : List ℕ) → AreBytes source → (p : ProgramTree) → Accepts source p
    → KeepsMeaning form p (graph p) (file_of_program form (omega p) (graph p))

-- And so does its image under a recipe, with what the recipe makes of the lambdas.
abbrev pub RecipesKeepMeaning : Type 0
RecipesKeepMeaning =
    (form : CodeForm) (source : List ℕ) → AreBytes source → (p : ProgramTree) → Accepts source p → (recipe : List Rule) (answers : List PlainOptimised) →
    AreAnswers rules recipe (graph p) answers → KeepsMeaning form p (lambdas_of answers) (file_of_program form (omega p) (lambdas_of answers))

-- This holds of each list that has the answers of a set of functions, and the built lambdas of the others: for every source
-- that is accepted, every recipe, and every set that has what each of its members calls in other units.
abbrev pub WithSomeAnswers : (ProgramTree → List PlainLambda → Type 0) → Type 0
WithSomeAnswers Holds =
    (source : List ℕ) → AreBytes source → (p : ProgramTree) → Accepts source p → (recipe : List Rule) (answers : List PlainOptimised) →
    (all : AreAnswers rules recipe (graph p) answers) → (chosen : ℕ → Bool) → HoldsDeps chosen all.deps →
    Holds p (with_answers chosen (graph p) answers)

-- Such a list has the meaning of the program call for call,
abbrev pub SomeAnswersHaveMeaning : Type 0
SomeAnswersHaveMeaning = WithSomeAnswers HasMeaning

-- and its image does what the program does.
abbrev pub SomeAnswersKeepMeaning : Type 0
SomeAnswersKeepMeaning = (form : CodeForm) → WithSomeAnswers (λ p ks. KeepsMeaning form p ks (file_of_program form (omega p) ks))
