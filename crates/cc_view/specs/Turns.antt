-- An order of the functions of a list by which their depths can be found one after another.
use Rattle.std.specs.Prelude.{◌≡◌, ℕ, ◌*◌, ◌^◌, ◌<◌, ◌≤◌, List, length, Option, None, Some, slice_get, slice_index_or, Contains}
use Rattle.g_graph.specs.Plain.{PlainLambda}
use Rattle.g_pass_order.specs.Calls.{region_calls}
use Rattle.cc_view.specs.Depths.{depth_at, most_of, with_frame, IsRecursive}

-- each function of the list once, callees first: where one does not come before its caller, calls lead back to it
pub record AreTurns (ls : List PlainLambda) (turns : List ℕ) : Type 0 where
  pub counted : length turns ≡ length ls
  pub inside : (f : ℕ) → Contains turns f → f < length ls
  pub all : (f : ℕ) → f < length ls → Contains turns f
  pub callees : (i j : ℕ) (l : PlainLambda) → i ≤ j → j < length turns → slice_get ls (slice_index_or turns i 0) ≡ Some l →
      Contains (region_calls l.body) (slice_index_or turns j 0) → IsRecursive ls (slice_index_or turns j 0)

-- the depths are found of the functions of so many turns
pub record IsFilled (ls : List PlainLambda) (sizes turns : List ℕ) (count : ℕ) (depths : List (Option ℕ)) : Type 0 where
  pub counted : length depths ≡ length ls
  pub low : (f d : ℕ) → depth_at depths f ≡ Some d → d ≤ 2 ^ 32 * count
  pub each : (i : ℕ) (l : PlainLambda) → i < count → slice_get ls (slice_index_or turns i 0) ≡ Some l →
      depth_at depths (slice_index_or turns i 0) ≡ with_frame (slice_index_or sizes (slice_index_or turns i 0) 0) (most_of depths (region_calls l.body))
  pub recursive : (f : ℕ) → IsRecursive ls f → depth_at depths f ≡ None
