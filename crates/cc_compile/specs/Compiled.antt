-- What a typed program is compiled to.
use Rattle.std.specs.Prelude.{◌≡◌, ℕ, List, [], None, map, zip}
use Rattle.c_typed.specs.Typed.{FunctionTree, ProgramTree}
use Rattle.c_typed.specs.WellTyped.{IsWellTyped}
use Rattle.c_check_def.specs.Limits.{above_limits}
use Rattle.r_rule.specs.declared.steps.Rule.{Rule}
use Rattle.r_rule.specs.Optimised.{PlainOptimised}
use Rattle.g_graph.specs.Program.{lambda_values}
use Rattle.g_build_def.specs.Functions.{graph, omega}
use Rattle.g_build.specs.Passed.{limit_passed}
use Rattle.g_pass_def.specs.Answers.{AreAnswers}
use Rattle.g_pass.specs.Sweep.{rules}
use Rattle.s_linear.specs.declared.frame.CodeForm.{CodeForm}
use Rattle.cc_emit.specs.Image.{file_of_program, lambdas_of, CanEmit}
use Rattle.cc_watch.specs.Rows.{PlainRow}

-- the image, in a form of code, of a program whose functions are as they are built
abbrev pub image_of : CodeForm → ProgramTree → List ℕ
image_of form p = file_of_program form (omega p) (graph p)

-- These bytes are the image of a typed program under a recipe, in a form of code: its functions are what the recipe makes of its lambdas.
pub record IsImageUnder (recipe : List Rule) (form : CodeForm) (p : ProgramTree) (bytes : List ℕ) : Type 0 where
  pub answers : List PlainOptimised
  pub made : AreAnswers rules recipe (graph p) answers
  pub file : bytes ≡ file_of_program form (omega p) (lambdas_of answers)

-- what a recipe did to a function
abbrev pub row_of : FunctionTree → (answer : PlainOptimised) → PlainRow
row_of f answer = record { name = f.name; before = answer.before; after = lambda_values answer.lambda; steps = answer.steps }

-- what it did to each function of a typed program, in source order
abbrev pub rows_of : ProgramTree → (answers : List PlainOptimised) → List PlainRow
rows_of p answers = map (λ (q : FunctionTree × PlainOptimised). row_of q.0 q.1) (zip p.functions answers)

-- These bytes are its image under a recipe, and these rows tell what the recipe did to its functions.
abbrev pub IsCompiledUnder : (recipe : List Rule) → CodeForm → ProgramTree → (bytes : List ℕ) → (rows : List PlainRow) → Type 0
IsCompiledUnder recipe form p bytes rows = (image : IsImageUnder recipe form p bytes) × (rows ≡ rows_of p image.answers)

-- ---- laws

-- What a recipe makes of the lambdas of a program that passes no limit can be put in an image.
abbrev pub AnswersCanBeEmitted : Type 0
AnswersCanBeEmitted =
    (p : ProgramTree) → IsWellTyped p → above_limits p ≡ None → limit_passed p.functions ≡ None →
    (recipe : List Rule) (answers : List PlainOptimised) → AreAnswers rules recipe (graph p) answers → CanEmit (omega p) (lambdas_of answers)

-- A program has at most one image under a recipe in each form, and one list of rows,
abbrev pub OneImage : Type 0
OneImage =
    (recipe : List Rule) (form : CodeForm) (p : ProgramTree) (bytes others : List ℕ) → IsImageUnder recipe form p bytes → IsImageUnder recipe form p others
    → bytes ≡ others

abbrev pub OneListOfRows : Type 0
OneListOfRows =
    (recipe : List Rule) (form : CodeForm) (p : ProgramTree) (bytes others : List ℕ) (rows more : List PlainRow) → IsCompiledUnder recipe form p bytes rows →
    IsCompiledUnder recipe form p others more → rows ≡ more

-- and under the recipe without a sweep the image is that of the functions as they are built.
abbrev pub UnsweptImage : Type 0
UnsweptImage = (form : CodeForm) (p : ProgramTree) (bytes : List ℕ) → IsImageUnder [] form p bytes → bytes ≡ image_of form p
