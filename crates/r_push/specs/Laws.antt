-- Push keeps meaning.
use Rattle.std.specs.Prelude.{◌≡◌, ℕ, List, Some}
use Rattle.g_graph.specs.Plain.{RegionTree, PlainLambda}
use Rattle.g_graph.specs.WellFormed.{IsWellFormed}
use Rattle.g_mean.specs.Edits.{IsPartOf}
use Rattle.g_mean.specs.Replacement.{Replaces}
use Rattle.r_edit.specs.Steps.{MayStandFor}
use Rattle.r_push.specs.Rule.{push_here, lambda_pushed}

-- a changed region of a well-formed lambda may replace the old one, in any lambdas
abbrev pub PushReplaces : Type 0
PushReplaces =
    (ls ks : List PlainLambda) (values n : ℕ) (l : PlainLambda) (r s : RegionTree) → IsPartOf l r → push_here values n r ≡ Some s → Replaces ls ks r s

-- The rule is a step: the lambda stays well formed, may stand for the old one in any list, and is no larger or small.
abbrev pub PushIsAStep : Type 0
PushIsAStep = (held : List PlainLambda) (n : ℕ) (l : PlainLambda) → IsWellFormed l → MayStandFor held l (lambda_pushed n l)
