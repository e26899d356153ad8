-- The number of values of a lambda after a change, computed and not counted anew.
use Rattle.std.specs.Prelude.{◌≡◌, ◌⊎◌, ℕ, ◌+◌, ◌≤◌, nat_le, Bool, true, ◌||◌, length, Option, Some}
use Rattle.base.specs.Limits.{most_grown_values}
use Rattle.g_graph.specs.Plain.{RegionTree, args_of, PlainLambda}
use Rattle.g_graph.specs.Signatures.{result_kinds}
use Rattle.g_graph.specs.Count.{region_values}
use Rattle.g_graph.specs.Change.{lambda_changed}
use Rattle.g_graph.specs.Program.{lambda_values}

-- at most so many values, or no more than before
abbrev pub IsNoLarger : (before after : ℕ) → Type 0
IsNoLarger before after = (after ≤ most_grown_values) ⊎ (after ≤ before)

-- A lambda of so many values to which a change adds so many, and from which it takes so many away, does not become
-- larger, or has at most that many afterwards.
abbrev pub may_change_size : (values added gone : ℕ) → Bool
may_change_size values added gone = nat_le added gone || nat_le (values + added) (most_grown_values + gone)

-- A count becomes at most one with so many more and so many fewer, and a lambda of `values` values may change so.
pub record Resized (values before after : ℕ) : Type 0 where
  pub added : ℕ
  pub gone : ℕ
  pub count : after + gone ≤ before + added
  pub may : may_change_size values added gone ≡ true

-- Region `s` has as many arguments and results as `r`, and so resized a count of values.
pub record IsResized (values : ℕ) (r s : RegionTree) : Type 0 where
  pub args : length (args_of s) ≡ length (args_of r)
  pub results : length (result_kinds s) ≡ length (result_kinds r)
  pub resized : Resized values (region_values r) (region_values s)

-- A lambda is no larger, or small, where the region that is changed is so resized.
abbrev pub ResizedLambdasAreNoLarger : Type 0
ResizedLambdasAreNoLarger =
    (here : RegionTree → Option RegionTree) (l : PlainLambda) → ((r s : RegionTree) → here r ≡ Some s → IsResized (lambda_values l) r s) →
    IsNoLarger (lambda_values l) (lambda_values (lambda_changed here l))
