-- The order by ranks is one by which depths can be found.
use Rattle.std.proofs.Common.{◌≡◌, ◌≢◌, ◌≤◌, ◌<◌, ℕ, List, length, Contains, Some, slice_get, slice_index, slice_index_or, ◌∙◌, inl, inr, arith}
use Rattle.std.specs.Prelude.{◌↔◌}
use Rattle.std.specs.List.Sorted.{IsNonDecreasingBy}
use Rattle.std.proofs.lemmas.Bool.{cases_lt}
use Rattle.std.proofs.lemmas.List.{length-map}
use Rattle.std.proofs.lemmas.Option.{slice_get_within}
use Rattle.call_order.specs.Laws.{CalleeRanksBelow, UnitsAreMutual}
use Rattle.g_graph.specs.Plain.{PlainLambda}
use Rattle.g_pass_order.specs.Calls.{region_calls, callees, calls_of, CallsAreKnown, IsOrder}
use Rattle.cc_view.specs.Depths.{IsRecursive}
use Rattle.cc_view.specs.Turns.{AreTurns}
use Rattle.g_pass_order.proofs.lemmas.Contained.{calls-known}
use Rattle.cc_view.proofs.Called.{called-in, callee-recursive}

-- a callee whose rank is no smaller is one that calls lead back to
no-earlier : CalleeRanksBelow → UnitsAreMutual → (ls : List PlainLambda) → CallsAreKnown ls → (ranks : List ℕ) (deps : List (List ℕ)) → IsOrder ls ranks deps →
    (f k : ℕ) (l : PlainLambda) → slice_get ls f ≡ Some l → Contains (region_calls l.body) k → slice_index ranks f ≤ slice_index ranks k → IsRecursive ls k
no-earlier below both ls known ranks deps order f k l at h no_less =
    let inside = known f k l at h in
    let calls = calls_of ls in
    let long = length-map ls (callees (length ls)) in
    let call = called-in ls f k l at h inside in
    let f_in = slice_get_within ls f l at in
    let apart : slice_index order.unit f ≢ slice_index order.unit k → ⊥ =
    λ other. let less = below calls order.unit ranks (calls-known ls) order.units f k (omega (arith, f_in, long)) call other in omega (arith, less, no_less) in
    elim (cases_lt (slice_index order.unit f) (slice_index order.unit k)) [
      | inl less ↦ absurd (apart (λ e. omega (arith, less, e)))
      | inr not_less ↦
          elim (cases_lt (slice_index order.unit k) (slice_index order.unit f)) [
            | inl more ↦ absurd (apart (λ e. omega (arith, more, e)))
            | inr not_more ↦
                let same : slice_index order.unit f ≡ slice_index order.unit k = omega (arith, not_less, not_more) in
                callee-recursive ls f k call ((both calls order.unit ranks order.units f k (omega (arith, f_in, long)) (omega (arith, inside, long))).1 same).1
          ]
    ]

pub turns-are : CalleeRanksBelow → UnitsAreMutual → (ls : List PlainLambda) → CallsAreKnown ls → (ranks : List ℕ) (deps : List (List ℕ)) → IsOrder ls ranks deps →
    (turns : List ℕ) → length turns ≡ length ranks → ((f : ℕ) → Contains turns f ↔ (f < length ranks)) → IsNonDecreasingBy (λ f. slice_index_or ranks f 0) turns → AreTurns ls turns
turns-are below both ls known ranks deps order turns counted all sorted =
    let long : length ranks ≡ length ls = order.units.rank_length ∙ length-map ls (callees (length ls)) in
    record {
      counted = counted ∙ long;
      inside = λ f h. let low = (all f).0 h in omega (arith, low, long);
      all = λ f low. (all f).1 (omega (arith, low, long));
      callees = λ i j l le inside at h.
          no-earlier below both ls known ranks deps order (slice_index_or turns i 0) (slice_index_or turns j 0) l at h (sorted i j 0 le inside);
    }
