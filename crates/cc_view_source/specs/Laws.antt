-- The law of drawings after steps.
use Rattle.std.specs.Prelude.{◌≡◌, ℕ, List, Some, length, slice_get}
use Rattle.r_rule.specs.declared.steps.Rule.{Rule}
use Rattle.g_graph.specs.Plain.{PlainLambda}
use Rattle.r_rule.specs.Optimised.{PlainOptimised}
use Rattle.cc_view_source.specs.Drawn.{IsLambdaAfter}

-- After all steps of a function it is its answer.
abbrev pub AllStepsMakeTheAnswer : Type 0
AllStepsMakeTheAnswer =
    (recipe : List Rule) (ls : List PlainLambda) (answers : List PlainOptimised) (f : ℕ) (a : PlainOptimised) → slice_get answers f ≡ Some a → (l : PlainLambda) →
    IsLambdaAfter recipe ls answers f a (Some (length a.steps)) l → l ≡ a.lambda
