-- Calls by the nodes of a lambda, and by the lists of functions that each one calls.
use Rattle.std.proofs.Common.{◌≡◌, ◌<◌, ℕ, List, [], ◌∷◌, ◌++◌, length, Contains, Some, slice_get, slice_index_or, refl, sym, ap, subst, ◌∙◌}
use Rattle.std.specs.List.{range_with_len}
use Rattle.std.proofs.lemmas.List.{get_or-map}
use Rattle.std.proofs.lemmas.Option.{slice_get_within, get_or_from_slice_get}
use Rattle.call_order.specs.Units.{Calls, Reaches, IsPath}
use Rattle.g_graph.specs.Plain.{PlainLambda}
use Rattle.g_pass_order.specs.Calls.{region_calls, has, callees, calls_of, no_lambda}
use Rattle.g_pass_order.proofs.lemmas.Contained.{filtered, passing, has-is, has-contains, range-has}
use Rattle.cc_view.specs.Depths.{IsRecursive}

calls-row : (ls : List PlainLambda) (f : ℕ) (l : PlainLambda) → slice_get ls f ≡ Some l → slice_index_or (calls_of ls) f [] ≡ callees (length ls) l
calls-row ls f l at =
    get_or-map (callees (length ls)) ls f no_lambda [] (slice_get_within ls f l at)
    ∙ ap (callees (length ls)) (get_or_from_slice_get ls f l no_lambda at)

-- a node's call of a function that is there is a call of the lists
pub called-in : (ls : List PlainLambda) (f k : ℕ) (l : PlainLambda) → slice_get ls f ≡ Some l → Contains (region_calls l.body) k → k < length ls → Calls (calls_of ls) f k
called-in ls f k l at h inside =
    subst (λ xs. Contains xs k) (sym (calls-row ls f l at)) (passing (has (region_calls l.body)) (range_with_len 0 (length ls)) k (range-has (length ls) k inside) (has-is (region_calls l.body) k h))

-- and the other way round
pub called-from : (ls : List PlainLambda) (f k : ℕ) (l : PlainLambda) → slice_get ls f ≡ Some l → Calls (calls_of ls) f k → Contains (region_calls l.body) k
called-from ls f k l at h =
    let row = subst (λ xs. Contains xs k) (calls-row ls f l at) h in
    has-contains (region_calls l.body) k (filtered (has (region_calls l.body)) (range_with_len 0 (length ls)) k row).1

path-more : (calls : List (List ℕ)) (path : List ℕ) (j k m : ℕ) → IsPath calls j path k → Calls calls k m → IsPath calls j (path ++ m ∷ []) m
path-more calls [] j k m same call = (subst (λ i. Calls calls i m) (sym same) call, refl)
path-more calls (next ∷ path) j k m along call = (along.0, path-more calls path next k m along.1 call)

-- calls lead back to a function that is called from where it leads to
pub callee-recursive : (ls : List PlainLambda) (f k : ℕ) → Calls (calls_of ls) f k → Reaches (calls_of ls) k f → IsRecursive ls k
callee-recursive ls f k call ([], same) = record { callee = k; called = subst (λ i. Calls (calls_of ls) i k) (sym same) call; back = ([], refl) }
callee-recursive ls f k call (next ∷ path, along) =
    record { callee = next; called = along.0; back = (path ++ k ∷ [], path-more (calls_of ls) path next f k along.1 call) }
