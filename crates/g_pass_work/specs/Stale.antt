-- Which functions of a list have to be made anew, where an old list has its answers.
use Rattle.std.specs.Prelude.{◌≡◌, ℕ, ◌<◌, ◌↔◌, true, false, Bool, List, length, slice_get, slice_index_or}
use Rattle.call_order.specs.Units.{Reaches}
use Rattle.g_graph.specs.Plain.{PlainLambda}

-- function j has the lambda and the deps that it had in the old list
pub record IsUnchanged (old : List PlainLambda) (old_deps : List (List ℕ)) (new : List PlainLambda) (deps : List (List ℕ)) (j : ℕ) : Type 0 where
  pub inside : j < length new
  pub lambda : slice_get old j ≡ slice_get new j
  pub deps_are : slice_get old_deps j ≡ slice_get deps j

-- Function j is unstale where it is unchanged, and so is each function to which its deps lead; else it is stale. Where
-- there is no old list, each function is stale.
abbrev pub IsUnstale : (old : List PlainLambda) (old_deps : List (List ℕ)) (new : List PlainLambda) (deps : List (List ℕ)) → ℕ → Type 0
IsUnstale old old_deps new deps j = (k : ℕ) → Reaches deps j k → IsUnchanged old old_deps new deps k

-- for each function whether it is stale
pub record AreStale (old : List PlainLambda) (old_deps : List (List ℕ)) (new : List PlainLambda) (deps : List (List ℕ)) (stale : List Bool) : Type 0 where
  pub count : length stale ≡ length new
  pub each : (j : ℕ) → (slice_index_or stale j true ≡ false) ↔ IsUnstale old old_deps new deps j
