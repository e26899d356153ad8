-- The deps of a function are called by it, and are of smaller ranks.
use Rattle.std.proofs.Common.{◌≡◌, ◌≢◌, ℕ, true, List, [], length, slice_index, slice_index_or, Contains, sym, ap, subst, ◌∙◌, inl, inr, arith}
use Rattle.std.specs.Prelude.{not, ◌==◌}
use Rattle.std.proofs.lemmas.Bool.{cases_lt}
use Rattle.std.proofs.lemmas.Bool.Decides.{nat_tests}
use Rattle.std.proofs.lemmas.List.{get_or_past}
use Rattle.std.proofs.lemmas.List.FromFn.{length-map-range_with_len, get_or-map-range_with_len}
use Rattle.call_order.specs.Laws.{CalleeRanksBelow, UnitsAreUnique}
use Rattle.g_graph.specs.Plain.{PlainLambda}
use Rattle.g_pass_order.specs.Calls.{calls_of, outside, outside_calls, IsOrder}
use Rattle.g_pass_order.specs.Laws.{IsDep, OrdersAreRanked, OrdersAreUnique}
use Rattle.g_pass_order.proofs.lemmas.Contained.{contains-none, filtered, calls-length, calls-known}

deps-length : (ls : List PlainLambda) (ranks : List ℕ) (deps : List (List ℕ)) → IsOrder ls ranks deps → length deps ≡ length ls
deps-length ls ranks deps order =
    ap (λ (xs : List (List ℕ)). length xs) order.deps_are
    ∙ (length-map-range_with_len (λ j. outside order.unit j (slice_index_or (calls_of ls) j [])) 0 (length (calls_of ls)) ∙ calls-length ls)

apart-from : (a b : ℕ) → not (a == b) ≡ true → b ≢ a
apart-from a b h e = grind (arith, nat_tests)

dep-is : CalleeRanksBelow → (ls : List PlainLambda) (ranks : List ℕ) (deps : List (List ℕ)) → IsOrder ls ranks deps → (j d : ℕ) → Contains (slice_index_or deps j []) d → IsDep ls ranks j d
dep-is below ls ranks deps order j d h =
    elim (cases_lt j (length ls)) [
      | inl inside ↦
          let calls = calls_of ls in
          let long = calls-length ls in
          let row = subst (λ xs. Contains (slice_index_or xs j []) d) order.deps_are h in
          let own = subst (λ xs. Contains xs d)
          (get_or-map-range_with_len (λ i. outside order.unit i (slice_index_or calls i [])) 0 (length calls) j j [] (omega (arith, inside, long)) (omega arith)) row in
          let parts = filtered (λ k. not (slice_index order.unit k == slice_index order.unit j)) (slice_index_or calls j []) d own in
          let known = calls-known ls j d parts.0 in
          record {
            inside = inside;
            known = omega (arith, known, long);
            smaller = below calls order.unit ranks (calls-known ls) order.units j d (omega (arith, inside, long)) parts.0
                (apart-from (slice_index order.unit d) (slice_index order.unit j) parts.1);
          }
      | inr past ↦
          let none = get_or_past deps j [] (omega (arith, past, deps-length ls ranks deps order)) in
          absurd (contains-none d (subst (λ xs. Contains xs d) none h))
    ]

pub orders_are_ranked : CalleeRanksBelow → OrdersAreRanked
orders_are_ranked below ls ranks deps order =
    record {
      ranks_length = order.units.rank_length ∙ calls-length ls;
      deps_length = deps-length ls ranks deps order;
      dep = dep-is below ls ranks deps order;
    }

pub orders_are_unique : UnitsAreUnique → OrdersAreUnique
orders_are_unique unique ls ranks ranks' deps deps' one other =
    let same = unique (calls_of ls) one.unit ranks other.unit ranks' (calls-known ls) one.units other.units in
    (same.1, one.deps_are ∙ (ap (λ unit. outside_calls unit (calls_of ls)) same.0 ∙ sym other.deps_are))
