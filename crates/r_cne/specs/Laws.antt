-- Common node elimination keeps meaning.
use Rattle.std.specs.Prelude.{◌≡◌, ℕ, List, Some}
use Rattle.g_graph.specs.Plain.{RegionTree, PlainLambda}
use Rattle.g_graph.specs.WellFormed.{IsWellFormed}
use Rattle.g_mean.specs.Data.{Datum}
use Rattle.g_mean.specs.Meaning.{Context, region_meaning}
use Rattle.g_mean.specs.Edits.{IsPartOf}
use Rattle.g_mean.specs.Replacement.{Replaces}
use Rattle.r_edit.specs.Steps.{MayStandFor}
use Rattle.r_cne.specs.Rule.{cne_here, cne}

-- A changed region of a well-formed lambda gives the very same answers, whatever stands around it.
abbrev pub CneMeansTheSame : Type 0
CneMeansTheSame =
    (l : PlainLambda) (n : ℕ) (r s : RegionTree) → IsPartOf l r → cne_here n r ≡ Some s → (c : Context) (xs : List Datum) → region_meaning c s xs ≡ region_meaning c r xs

-- a changed region of a well-formed lambda may replace the old one, in any lambdas
abbrev pub CneReplaces : Type 0
CneReplaces =
    (ls ks : List PlainLambda) (n : ℕ) (l : PlainLambda) (r s : RegionTree) → IsPartOf l r → cne_here n r ≡ Some s → Replaces ls ks r s

-- The rule is a step: the lambda stays well formed, may stand for the old one in any list, and is no larger or small.
abbrev pub CneIsAStep : Type 0
CneIsAStep = (held : List PlainLambda) (n : ℕ) (l : PlainLambda) → IsWellFormed l → MayStandFor held l (cne n l)
