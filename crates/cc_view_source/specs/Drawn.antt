-- Which lambdas are drawn of a program, and how.
use Rattle.std.specs.Prelude.{◌≡◌, ◌<◌, ◌≤◌, ℕ, zero, suc, List, [], ◌++◌, Option, None, Some, length, take, position, slice_get}
use Rattle.std.specs.Str.{bytes_eq}
use Rattle.r_rule.specs.declared.steps.Rule.{Rule}
use Rattle.g_graph.specs.Plain.{PlainLambda}
use Rattle.r_rule.specs.Optimised.{PlainOptimised}
use Rattle.g_pass_def.specs.Answers.{lambda_of, AreAnswers}
use Rattle.g_pass_def.specs.Sweep.{replayed}
use Rattle.g_pass.specs.Sweep.{rules}
use Rattle.g_text.specs.Texts.{lambda_text}
use Rattle.g_text.specs.Drawing.{IsDrawn}
use Rattle.cc_view_source.specs.declared.arguments.Drawing.{Drawing}
use Rattle.cc_view_source.specs.declared.arguments.Drawing.TheVariants.{Dot, Rows}
use Rattle.cc_view_source.specs.Made.{IsMadeWith}
use Rattle.cc_view_source.specs.Names.{function_name}

-- the drawing of a lambda goes to the end of a buffer
abbrev pub IsShown : Drawing → (name : List ℕ) → PlainLambda → (before after : List ℕ) → Type 0
IsShown Rows name l before after = after ≡ before ++ lambda_text name l
IsShown Dot name l before after = IsDrawn before after l

-- ---- all functions

-- the first functions of a program, so many, as the recipe made them
abbrev pub AreShown : Drawing → (names : List (List ℕ)) (answers : List PlainOptimised) (count : ℕ) (text : List ℕ) → Type 0
AreShown drawing names answers zero text = text ≡ []
AreShown drawing names answers (suc f) text =
    (front : List ℕ) × (a : PlainOptimised) × AreShown drawing names answers f front × (slice_get answers f ≡ Some a) × IsShown drawing (function_name names f) a.lambda front text

-- ---- one function

-- the first function of a name
abbrev pub function_named : (name : List ℕ) → (names : List (List ℕ)) → Option ℕ
function_named name names = position (λ n. bytes_eq n name) names

-- so many steps were logged, where a number is given
abbrev pub HasSteps : Option ℕ → PlainOptimised → Type 0
HasSteps None a = Unit {0}
HasSteps (Some count) a = count ≤ length a.steps

-- there is a function of the name, and so many steps of it
pub record IsThere (names : List (List ℕ)) (answers : List PlainOptimised) (name : List ℕ) (after : Option ℕ) : Type 0 where
  pub function : ℕ
  pub named : function_named name names ≡ Some function
  pub answer : PlainOptimised
  pub found : slice_get answers function ≡ Some answer
  pub steps : HasSteps after answer

-- the lambda of a function as the recipe made it, or after its first steps
abbrev pub IsLambdaAfter : (recipe : List Rule) (ls : List PlainLambda) (answers : List PlainOptimised) (f : ℕ) (a : PlainOptimised) → Option ℕ → PlainLambda → Type 0
IsLambdaAfter recipe ls answers f a None l = l ≡ a.lambda
IsLambdaAfter recipe ls answers f a (Some count) l =
    (callees : List PlainLambda) × IsMadeWith recipe ls answers f callees × (replayed rules callees (take count a.steps) (lambda_of ls f) ≡ Some l)

-- That lambda is shown, and nothing else.
pub record IsOneShown (recipe : List Rule) (ls : List PlainLambda) (names : List (List ℕ)) (answers : List PlainOptimised) (name : List ℕ) (after : Option ℕ) (drawing : Drawing) (text : List ℕ) : Type 0 where
  pub there : IsThere names answers name after
  pub lambda : PlainLambda
  pub is : IsLambdaAfter recipe ls answers there.function there.answer after lambda
  pub shown : IsShown drawing name lambda [] text

-- ---- whatever the recipe was

-- the answers are those of some recipe
abbrev pub ArePrograms : (ls : List PlainLambda) (answers : List PlainOptimised) → Type 0
ArePrograms ls answers = (recipe : List Rule) × AreAnswers rules recipe ls answers

-- the lambda of the function of this number, as the recipe made it, or after its first steps
abbrev pub AreAfter : (ls : List PlainLambda) (answers : List PlainOptimised) (f : ℕ) (after : Option ℕ) → PlainLambda → Type 0
AreAfter ls answers f after l =
    (a : PlainOptimised) × (slice_get answers f ≡ Some a) × HasSteps after a × ((recipe : List Rule) → AreAnswers rules recipe ls answers → IsLambdaAfter recipe ls answers f a after l)

-- a function has fewer steps
abbrev pub HasFewer : (answers : List PlainOptimised) (f count : ℕ) → Type 0
HasFewer answers f count = (a : PlainOptimised) → slice_get answers f ≡ Some a → length a.steps < count

abbrev pub AreOneShown : (ls : List PlainLambda) (names : List (List ℕ)) (answers : List PlainOptimised) (name : List ℕ) (after : Option ℕ) (drawing : Drawing) (text : List ℕ) → Type 0
AreOneShown ls names answers name after drawing text = (recipe : List Rule) → AreAnswers rules recipe ls answers → IsOneShown recipe ls names answers name after drawing text
