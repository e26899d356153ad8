-- What is made of an accepted source under a recipe.
use Rattle.std.specs.Prelude.{◌≡◌, ◌<◌, ℕ, List, Some, length, slice_get}
use Rattle.c_typed.specs.Typed.{ProgramTree}
use Rattle.r_rule.specs.declared.steps.Rule.{Rule}
use Rattle.g_graph.specs.Plain.{PlainLambda, PlainOmega}
use Rattle.r_rule.specs.Optimised.{PlainOptimised}
use Rattle.g_build_def.specs.Functions as built
use Rattle.g_pass_def.specs.Answers.{AreAnswers, lambda_of}
use Rattle.g_pass_def.specs.Sweep.{optimise}
use Rattle.g_pass.specs.Sweep.{rules}
use Rattle.cc_emit.specs.Image.{lambdas_of, CanEmit}
use Rattle.cc_source.specs.Accepted.{Accepts}

-- A program has this graph, the recipe makes these of its lambdas, and both can be put in an image.
pub record IsMadeOf (recipe : List Rule) (p : ProgramTree) (omega : PlainOmega) (answers : List PlainOptimised) : Type 0 where
  pub graph : omega ≡ built.omega p
  pub are : AreAnswers rules recipe (built.graph p) answers
  pub built : CanEmit omega omega.lambdas
  pub fits : CanEmit omega (lambdas_of answers)

-- A source is accepted, and these are made of its program.
pub record IsMade (recipe : List Rule) (source : List ℕ) (omega : PlainOmega) (answers : List PlainOptimised) : Type 0 where
  pub program : ProgramTree
  pub accepted : Accepts source program
  pub made : IsMadeOf recipe program omega answers

-- The answer of a function is what a recipe makes of its lambda, given these callees.
abbrev pub IsMadeWith : (recipe : List Rule) (ls : List PlainLambda) (answers : List PlainOptimised) (f : ℕ) (callees : List PlainLambda) → Type 0
IsMadeWith recipe ls answers f callees = slice_get answers f ≡ Some (optimise rules callees recipe (lambda_of ls f))

-- So it is with the answers of every recipe.
abbrev pub AreCallees : (ls : List PlainLambda) (answers : List PlainOptimised) (f : ℕ) (callees : List PlainLambda) → Type 0
AreCallees ls answers f callees =
    (recipe : List Rule) → AreAnswers rules recipe ls answers → f < length ls → IsMadeWith recipe ls answers f callees
