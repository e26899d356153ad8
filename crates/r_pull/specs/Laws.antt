-- Pull keeps meaning.
use Rattle.std.specs.Prelude.{◌≡◌, ℕ, List, Some}
use Rattle.g_graph.specs.Plain.{RegionTree, PlainLambda}
use Rattle.g_graph.specs.WellFormed.{IsWellFormed}
use Rattle.g_mean.specs.Edits.{IsPartOf}
use Rattle.g_mean.specs.Replacement.{Replaces}
use Rattle.r_edit.specs.Steps.{MayStandFor}
use Rattle.r_pull.specs.Rule.{pull_here, lambda_pulled}

-- a changed region of a well-formed lambda may replace the old one, in any lambdas
abbrev pub PullReplaces : Type 0
PullReplaces =
    (ls ks : List PlainLambda) (values n : ℕ) (l : PlainLambda) (r s : RegionTree) → IsPartOf l r → pull_here values l.next n r ≡ Some s → Replaces ls ks r s

-- The rule is a step: the lambda stays well formed, may stand for the old one in any list, and is no larger or small.
abbrev pub PullIsAStep : Type 0
PullIsAStep = (held : List PlainLambda) (n : ℕ) (l : PlainLambda) → IsWellFormed l → MayStandFor held l (lambda_pulled n l)
