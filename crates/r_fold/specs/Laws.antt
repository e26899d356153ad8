-- Folding keeps meaning.
use Rattle.std.specs.Prelude.{◌≡◌, ℕ, List, Some}
use Rattle.g_graph.specs.Plain.{RegionTree, PlainLambda}
use Rattle.g_graph.specs.WellFormed.{IsWellFormed}
use Rattle.g_mean.specs.Edits.{IsPartOf}
use Rattle.g_mean.specs.Replacement.{Replaces}
use Rattle.r_edit.specs.Steps.{MayStandFor}
use Rattle.r_fold.specs.Rule.{fold_here, fold}

-- a folded region of a well-formed lambda may replace it, in any lambdas
abbrev pub FoldReplaces : Type 0
FoldReplaces =
    (ls ks : List PlainLambda) (n : ℕ) (l : PlainLambda) (r s : RegionTree) → IsPartOf l r → fold_here n r ≡ Some s → Replaces ls ks r s

-- The rule is a step: the lambda stays well formed, may stand for the old one in any list, and is no larger or small.
abbrev pub FoldIsAStep : Type 0
FoldIsAStep = (held : List PlainLambda) (n : ℕ) (l : PlainLambda) → IsWellFormed l → MayStandFor held l (fold n l)
