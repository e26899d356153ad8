-- A node while loop variables of it go, from the last to the first: those before have no more uses than they had.
use Rattle.std.proofs.Common.{◌≡◌, ◌≤◌, ◌+◌, ◌&&◌, ◌==◌, ℕ, zero, suc, Bool, true, false, Option, None, Some, List, [], ◌∷◌, refl, ap, ◌∙◌, arith}
use Rattle.std.specs.Prelude.{if◌then◌else◌, slice_get, option_and_then}
use Rattle.std.specs.List.{remove}
use Rattle.std.proofs.lemmas.Option.{same_Some}
use Rattle.g_graph.specs.declared.op.Origin.{Origin}
use Rattle.g_graph.specs.declared.op.Origin.TheVariants.{Arg, Out}
use Rattle.g_graph.specs.Scope.{same_origin}
use Rattle.g_graph.specs.WellFormed.{is_origin}
use Rattle.g_graph.proofs.lemmas.Unique.{equal_back}
use Rattle.g_arena_def.specs.declared.place.Place.{Place}
use Rattle.g_arena_def.specs.Flat.{FlatRegion, FlatNode, Flat, place_in, same_place}
use Rattle.g_arena_def.specs.Reads.{found, region_of, times, input_uses, result_uses, uses_in}
use Rattle.g_arena_def.specs.Edits.{node_with, at_with, input_removed, result_removed}
use Rattle.r_sweep.proofs.lemmas.Around.{region_set}
use Rattle.r_sweep.proofs.lemmas.Edits.{NodeAt, result_gone_at}
use Rattle.r_sweep.proofs.lemmas.EntrySteps.{input_gone}

-- ---- lists

-- how often an origin stands in a list, and in the list without an element
pub times_left : (o : Origin) (m : ℕ) (xs : List Origin) → times o (remove xs m) + (if is_origin (slice_get xs m) o then 1 else 0) ≡ times o xs
times_left o m [] = by m
  where
    by : (k : ℕ) → times o (remove [] k) + 0 ≡ 0
    by zero = omega arith
    by (suc k) = omega arith
times_left o zero (x ∷ xs) = ap (λ t. times o xs + (if t then 1 else 0)) (turned x o) ∙ omega arith
  where
    turned : (p q : Origin) → same_origin p q ≡ same_origin q p
    turned (Arg j) (Arg k) = equal_back j k
    turned (Arg j) (Out n k) = refl
    turned (Out n j) (Arg k) = refl
    turned (Out n j) (Out m k) = λ i. equal_back n m i && equal_back j k i
times_left o (suc m) (x ∷ xs) = omega (arith, times_left o m xs)

-- ---- uses where an input or a result goes

module _ (o : Origin) where
  inputs_less : (q : Place) (n m : ℕ) (xs : List FlatNode) → input_uses q o (node_with n (input_gone m) xs) ≤ input_uses q o xs
  inputs_less q n m [] = omega arith
  inputs_less q n m (x ∷ xs) = by (x.id == n) (inputs_less q n m xs)
    where
      own : (t : Bool) → (if t then times o (remove x.inputs m) else 0) ≤ (if t then times o x.inputs else 0)
      own true = omega (arith, times_left o m x.inputs)
      own false = omega arith

      by : (t : Bool) → input_uses q o (node_with n (input_gone m) xs) ≤ input_uses q o xs → input_uses q o (if t then input_gone m x ∷ xs else x ∷ node_with n (input_gone m) xs) ≤ input_uses q o (x ∷ xs)
      by true h = omega (arith, own (same_place x.home q))
      by false h = omega (arith, h)

  results_still : (m j k : ℕ) (g : FlatNode → FlatNode) (xs : List FlatNode) → ((y : FlatNode) → (g y).id ≡ y.id) → ((y : FlatNode) → (g y).regions ≡ y.regions) →
      result_uses o (option_and_then (λ (z : FlatNode). slice_get z.regions k) (found j (node_with m g xs))) ≡ result_uses o (option_and_then (λ (z : FlatNode). slice_get z.regions k) (found j xs))
  results_still m j k g [] e f = refl
  results_still m j k g (x ∷ xs) e f = by (x.id == m) (results_still m j k g xs e f)
    where
      at : (t : Bool) → result_uses o (option_and_then (λ (z : FlatNode). slice_get z.regions k) (if t then Some (g x) else found j xs)) ≡ result_uses o (option_and_then (λ (z : FlatNode). slice_get z.regions k) (if t then Some x else found j xs))
      at true = ap (λ rs. result_uses o (slice_get rs k)) (f x)
      at false = refl

      past : (t : Bool) → result_uses o (option_and_then (λ (z : FlatNode). slice_get z.regions k) (found j (node_with m g xs))) ≡ result_uses o (option_and_then (λ (z : FlatNode). slice_get z.regions k) (found j xs)) →
          result_uses o (option_and_then (λ (z : FlatNode). slice_get z.regions k) (if t then Some x else found j (node_with m g xs))) ≡ result_uses o (option_and_then (λ (z : FlatNode). slice_get z.regions k) (if t then Some x else found j xs))
      past true h = refl
      past false h = h

      by : (t : Bool) → result_uses o (option_and_then (λ (z : FlatNode). slice_get z.regions k) (found j (node_with m g xs))) ≡ result_uses o (option_and_then (λ (z : FlatNode). slice_get z.regions k) (found j xs)) →
          result_uses o (option_and_then (λ (z : FlatNode). slice_get z.regions k) (found j (if t then g x ∷ xs else x ∷ node_with m g xs)))
          ≡ result_uses o (option_and_then (λ (z : FlatNode). slice_get z.regions k) (if x.id == j then Some x else found j xs))
      by true h = ap (λ i. result_uses o (option_and_then (λ (z : FlatNode). slice_get z.regions k) (if i == j then Some (g x) else found j xs))) (e x) ∙ at (x.id == j)
      by false h = past (x.id == j) h

  pub input_less : (q : Place) (n m : ℕ) (b : Flat) → uses_in q o (input_removed n m b) ≤ uses_in q o b
  input_less q n m b = omega (arith, inputs_less q n m b.nodes, by q.node)
    where
      by : (s : Option ℕ) → result_uses o (region_of s q.region (input_removed n m b)) ≡ result_uses o (region_of s q.region b)
      by None = refl
      by (Some j) = results_still n j q.region (input_gone m) b.nodes (λ y. refl) (λ y. refl)

  inputs_set : (q : Place) (n k : ℕ) (h : FlatRegion → FlatRegion) (xs : List FlatNode) → input_uses q o (node_with n (region_set k h) xs) ≡ input_uses q o xs
  inputs_set q n k h [] = refl
  inputs_set q n k h (x ∷ xs) = by (x.id == n) (inputs_set q n k h xs)
    where
      by : (t : Bool) → input_uses q o (node_with n (region_set k h) xs) ≡ input_uses q o xs → input_uses q o (if t then region_set k h x ∷ xs else x ∷ node_with n (region_set k h) xs) ≡ input_uses q o (x ∷ xs)
      by true r = refl
      by false r = ap (λ c. (if same_place x.home q then times o x.inputs else 0) + c) r

  at_zero : (h : FlatRegion → FlatRegion) (r : FlatRegion) (rs : List FlatRegion) → slice_get rs 0 ≡ Some r → slice_get (at_with 0 h rs) 0 ≡ Some (h r)
  at_zero h r [] e = absurd cc
  at_zero h r (s ∷ rs) e = ap (λ z. Some (h z)) (same_Some s r e)

  -- a result of the one region goes
  pub own_result : (n m : ℕ) (y : FlatNode) (b : Flat) → NodeAt n y b → (r : FlatRegion) → slice_get y.regions 0 ≡ Some r →
      uses_in (place_in n 0) o (result_removed (place_in n 0) m b) + (if is_origin (slice_get r.results m) o then 1 else 0) ≡ uses_in (place_in n 0) o b
  own_result n m y b h r there =
      let before : result_uses o (option_and_then (λ (x : FlatNode). slice_get x.regions 0) (found n b.nodes)) ≡ times o r.results =
      ap (λ z. result_uses o (option_and_then (λ (x : FlatNode). slice_get x.regions 0) z)) h.there ∙ ap (result_uses o) there in
      let after : result_uses o (option_and_then (λ (x : FlatNode). slice_get x.regions 0) (found n (result_removed (place_in n 0) m b).nodes)) ≡ times o (remove r.results m) =
      ap (λ z. result_uses o (option_and_then (λ (x : FlatNode). slice_get x.regions 0) z)) (result_gone_at n 0 m y b h).there
      ∙ ap (result_uses o) (at_zero (λ (s : FlatRegion). record s { results = remove s.results m }) r y.regions there) in
      omega (arith, before, after, inputs_set (place_in n 0) n 0 (λ (s : FlatRegion). record s { results = remove s.results m }) b.nodes, times_left o m r.results)
