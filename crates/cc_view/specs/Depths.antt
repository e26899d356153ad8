-- How deep the stack of a program gets: a function needs its frame, and below it what the deepest of its callees needs.
-- Where calls lead back to where they came from, no number is known.
use Rattle.std.specs.Prelude.{◌≡◌, ℕ, ◌+◌, max, List, [], ◌∷◌, length, Option, None, Some, slice_get, slice_index_or}
use Rattle.call_order.specs.Units.{Calls, Reaches}
use Rattle.g_graph.specs.Plain.{PlainLambda}
use Rattle.g_pass_order.specs.Calls.{region_calls, calls_of}

-- the greater of two depths, where both are known
abbrev pub greater : Option ℕ → Option ℕ → Option ℕ
greater (Some a) (Some b) = Some (max a b)
greater (Some a) None = None
greater None b = None

-- what is known of a function's depth
abbrev pub depth_at : (depths : List (Option ℕ)) → ℕ → Option ℕ
depth_at depths f = slice_index_or depths f None

-- the greatest depth of these functions, where each is known
abbrev pub most_of : (depths : List (Option ℕ)) → List ℕ → Option ℕ
most_of depths [] = Some 0
most_of depths (k ∷ ks) = greater (depth_at depths k) (most_of depths ks)

-- a frame above a stack of this depth
abbrev pub with_frame : (frame : ℕ) → Option ℕ → Option ℕ
with_frame frame (Some d) = Some (frame + d)
with_frame frame None = None

-- a function that calls lead back to
pub record IsRecursive (ls : List PlainLambda) (f : ℕ) : Type 0 where
  pub callee : ℕ
  pub called : Calls (calls_of ls) f callee
  pub back : Reaches (calls_of ls) callee f

-- The depths of the functions of a list, whose frames have these sizes: the frame of each and the greatest depth of its
-- callees, and none for a function that calls lead back to, nor for one that calls lead from to such a function.
pub record IsDepth (ls : List PlainLambda) (sizes : List ℕ) (depths : List (Option ℕ)) : Type 0 where
  pub counted : length depths ≡ length ls
  pub each : (f : ℕ) (l : PlainLambda) → slice_get ls f ≡ Some l → depth_at depths f ≡ with_frame (slice_index_or sizes f 0) (most_of depths (region_calls l.body))
  pub recursive : (f : ℕ) → IsRecursive ls f → depth_at depths f ≡ None
