-- Invariant value redirection keeps meaning.
use Rattle.std.specs.Prelude.{◌≡◌, ℕ, List, Some}
use Rattle.g_graph.specs.Plain.{RegionTree, PlainLambda}
use Rattle.g_graph.specs.WellFormed.{IsWellFormed}
use Rattle.g_mean.specs.Edits.{IsPartOf}
use Rattle.g_mean.specs.Replacement.{Replaces}
use Rattle.r_edit.specs.Steps.{MayStandFor}
use Rattle.r_inv.specs.Rule.{inv_here, inv}

-- a changed region of a well-formed lambda may replace the old one, in any lambdas
abbrev pub InvReplaces : Type 0
InvReplaces =
    (ls ks : List PlainLambda) (n : ℕ) (l : PlainLambda) (r s : RegionTree) → IsPartOf l r → inv_here n r ≡ Some s → Replaces ls ks r s

-- The rule is a step: the lambda stays well formed, may stand for the old one in any list, and is no larger or small.
abbrev pub InvIsAStep : Type 0
InvIsAStep = (held : List PlainLambda) (n : ℕ) (l : PlainLambda) → IsWellFormed l → MayStandFor held l (inv n l)
