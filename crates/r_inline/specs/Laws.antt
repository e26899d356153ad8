-- Inlining keeps meaning.
use Rattle.std.specs.Prelude.{◌≡◌, ℕ, IsTrue, List, [], ◌∷◌, Some, slice_get}
use Rattle.g_graph.specs.Plain.{RegionTree, PlainLambda}
use Rattle.g_graph.specs.WellFormed.{IsWellFormed}
use Rattle.g_mean.specs.Edits.{IsPartOf}
use Rattle.g_mean.specs.Replacement.{Replaces}
use Rattle.r_edit.specs.Steps.{MayStandFor}
use Rattle.r_inline.specs.Rule.{inline_here, applies, lambda_inlined}

-- A changed region of a well-formed lambda may replace the old one in any lambdas that have the callee, well formed and
-- without objects, at its number.
abbrev pub InlineReplaces : Type 0
InlineReplaces =
    (ls ks : List PlainLambda) (n : ℕ) (callee l : PlainLambda) (r s : RegionTree) → IsWellFormed callee → callee.objects ≡ [] → slice_get ls callee.number ≡ Some callee →
    IsPartOf l r → inline_here l.next n callee r ≡ Some s → Replaces ls ks r s

-- The rule is a step where the callee is held: the lambda stays well formed, may stand for the old one in every list that
-- has both at their numbers, and is no larger or small.
abbrev pub InlineIsAStep : Type 0
InlineIsAStep = (n : ℕ) (callee l : PlainLambda) → IsWellFormed callee → IsWellFormed l → IsTrue (applies l n callee) → MayStandFor (callee ∷ []) l (lambda_inlined n callee l)
