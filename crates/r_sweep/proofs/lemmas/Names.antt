-- Uses that name a node that is left: there are fewer, once uses of an output of the first move to what was passed.
use Rattle.std.proofs.Common.{◌≡◌, ◌≤◌, ◌+◌, ◌&&◌, ◌||◌, ◌==◌, ℕ, zero, suc, Bool, true, false, Option, None, Some, List, [], ◌∷◌, map, refl, ap, ◌∙◌, arith}
use Rattle.std.specs.Prelude.{if◌then◌else◌, slice_get, option_and_then}
use Rattle.std.specs.List.{list_any}
use Rattle.std.proofs.lemmas.Bool.{and_parts}
use Rattle.g_graph.specs.declared.op.Origin.{Origin}
use Rattle.g_graph.specs.declared.op.Origin.TheVariants.{Arg, Out}
use Rattle.g_graph.specs.Scope.{same_origin}
use Rattle.g_graph.specs.Replace.{origin_replaced}
use Rattle.g_graph.proofs.lemmas.Unique.{equal_back}
use Rattle.g_arena_def.specs.declared.place.Place.{Place}
use Rattle.g_arena_def.specs.Flat.{FlatRegion, FlatNode, Flat, is_in, same_place}
use Rattle.g_arena_def.specs.Reads.{found, region_of, times, input_uses, result_uses, uses_in}
use Rattle.g_arena_def.specs.Edits.{node_with, at_with, changed_in, inputs_at, uses_with}
use Rattle.r_sweep.proofs.lemmas.Around.{region_set}
use Rattle.r_sweep.specs.Measure.{named, inputs_named, regions_named, results_named, flat_named}

-- an origin that names none of these nodes
abbrev pub NamesNone : List ℕ → Origin → Type 0
NamesNone ns (Arg k) = Unit {0}
NamesNone ns (Out n k) = is_in ns (Some n) ≡ false

-- how often an origin counts
abbrev weight : List ℕ → Origin → ℕ
weight ns (Arg k) = 0
weight ns (Out n k) = if is_in ns (Some n) then 1 else 0

named_first : (ns : List ℕ) (o : Origin) (os : List Origin) → named ns (o ∷ os) ≡ weight ns o + named ns os
named_first ns (Arg k) os = omega arith
named_first ns (Out n k) os = refl

none_weight : (ns : List ℕ) (o : Origin) → NamesNone ns o → weight ns o ≡ 0
none_weight ns (Arg k) h = refl
none_weight ns (Out n k) h = ap (λ t. if t then 1 else 0) h

module _ (n port : ℕ) (ns : List ℕ) (to : Origin) (passed : NamesNone ns to) where
  abbrev move : Origin → Origin
  move = origin_replaced (Out n port) to

  abbrev moved : FlatRegion → FlatRegion
  moved r = record r { results = map move r.results }

  weight_more : (o : Origin) → weight ns o ≤ weight (n ∷ ns) o
  weight_more (Arg k) = omega arith
  weight_more (Out m k) = by (m == n) (list_any (λ j. m == j) ns)
    where
      by : (t u : Bool) → (if u then 1 else 0) ≤ (if t || u then 1 else 0)
      by true true = omega arith
      by true false = omega arith
      by false true = omega arith
      by false false = omega arith

  -- a use that moves counted, and counts no more
  weight_moved : (o : Origin) → weight ns (move o) + (if same_origin (Out n port) o then 1 else 0) ≤ weight (n ∷ ns) o
  weight_moved o = by o (same_origin (Out n port) o) refl
    where
      own : (m k : ℕ) → ((n == m) && (port == k)) ≡ true → weight (n ∷ ns) (Out m k) ≡ 1
      own m k e =
          let same = equal_back m n ∙ (and_parts (n == m) (port == k) e).0 in
          ap (λ t. if t || list_any (λ j. m == j) ns then 1 else 0) same

      by : (q : Origin) (t : Bool) → same_origin (Out n port) q ≡ t → weight ns (if t then to else q) + (if t then 1 else 0) ≤ weight (n ∷ ns) q
      by (Arg k) true e = absurd cc
      by (Arg k) false e = omega arith
      by (Out m k) true e = omega (arith, none_weight ns to passed, own m k e)
      by (Out m k) false e = omega (arith, weight_more (Out m k))

  named_moved : (os : List Origin) → named ns (map move os) + times (Out n port) os ≤ named (n ∷ ns) os
  named_moved [] = omega arith
  named_moved (o ∷ os) =
      omega (arith, named_first ns (move o) (map move os), named_first (n ∷ ns) o os, weight_moved o, named_moved os)

  named_more : (os : List Origin) → named ns os ≤ named (n ∷ ns) os
  named_more [] = omega arith
  named_more (o ∷ os) = omega (arith, named_first ns o os, named_first (n ∷ ns) o os, weight_more o, named_more os)

  regions_more : (rs : List FlatRegion) → regions_named ns rs ≤ regions_named (n ∷ ns) rs
  regions_more [] = omega arith
  regions_more (r ∷ rs) = omega (arith, named_more r.results, regions_more rs)

  results_more : (xs : List FlatNode) → results_named ns xs ≤ results_named (n ∷ ns) xs
  results_more [] = omega arith
  results_more (x ∷ xs) = omega (arith, regions_more x.regions, results_more xs)

  inputs_more : (xs : List FlatNode) → inputs_named ns xs ≤ inputs_named (n ∷ ns) xs
  inputs_more [] = omega arith
  inputs_more (x ∷ xs) = omega (arith, named_more x.inputs, inputs_more xs)

  pub flat_more : (a : Flat) → flat_named ns a ≤ flat_named (n ∷ ns) a
  flat_more a = omega (arith, named_more a.body.results, inputs_more a.nodes, results_more a.nodes)

  -- inputs
  inputs_moved : (p : Place) (xs : List FlatNode) → inputs_named ns (map (inputs_at p move) xs) + input_uses p (Out n port) xs ≤ inputs_named (n ∷ ns) xs
  inputs_moved p [] = omega arith
  inputs_moved p (x ∷ xs) = by (same_place x.home p) (inputs_moved p xs)
    where
      by : (t : Bool) → inputs_named ns (map (inputs_at p move) xs) + input_uses p (Out n port) xs ≤ inputs_named (n ∷ ns) xs →
          inputs_named ns ((if t then record x { inputs = map move x.inputs } else x) ∷ map (inputs_at p move) xs) + ((if t then times (Out n port) x.inputs else 0) + input_uses p (Out n port) xs)
          ≤ inputs_named (n ∷ ns) (x ∷ xs)
      by true h = omega (arith, h, named_moved x.inputs)
      by false h = omega (arith, h, named_more x.inputs)

  -- results stay where inputs change, and inputs where results do
  results_apart : (ms : List ℕ) (p : Place) (xs : List FlatNode) → results_named ms (map (inputs_at p move) xs) ≡ results_named ms xs
  results_apart ms p [] = refl
  results_apart ms p (x ∷ xs) = by (same_place x.home p) (results_apart ms p xs)
    where
      by : (t : Bool) → results_named ms (map (inputs_at p move) xs) ≡ results_named ms xs →
          results_named ms ((if t then record x { inputs = map move x.inputs } else x) ∷ map (inputs_at p move) xs) ≡ results_named ms (x ∷ xs)
      by true h = ap (λ c. regions_named ms x.regions + c) h
      by false h = ap (λ c. regions_named ms x.regions + c) h

  inputs_apart : (m k : ℕ) (xs : List FlatNode) → inputs_named ns (node_with m (region_set k moved) xs) ≡ inputs_named ns xs
  inputs_apart m k [] = refl
  inputs_apart m k (x ∷ xs) = by (x.id == m) (inputs_apart m k xs)
    where
      by : (t : Bool) → inputs_named ns (node_with m (region_set k moved) xs) ≡ inputs_named ns xs →
          inputs_named ns (if t then region_set k moved x ∷ xs else x ∷ node_with m (region_set k moved) xs) ≡ inputs_named ns (x ∷ xs)
      by true h = refl
      by false h = ap (λ c. named ns x.inputs + c) h

  -- results
  regions_moved : (k : ℕ) (rs : List FlatRegion) → regions_named ns (at_with k moved rs) + result_uses (Out n port) (slice_get rs k) ≤ regions_named (n ∷ ns) rs
  regions_moved k [] = omega arith
  regions_moved zero (r ∷ rs) = omega (arith, named_moved r.results, regions_more rs)
  regions_moved (suc k) (r ∷ rs) = omega (arith, named_more r.results, regions_moved k rs)

  abbrev uses_there : (m k : ℕ) → List FlatNode → ℕ
  uses_there m k xs = result_uses (Out n port) (option_and_then (λ (x : FlatNode). slice_get x.regions k) (found m xs))

  results_moved : (m k : ℕ) (xs : List FlatNode) → results_named ns (node_with m (region_set k moved) xs) + uses_there m k xs ≤ results_named (n ∷ ns) xs
  results_moved m k [] = omega arith
  results_moved m k (x ∷ xs) = by (x.id == m) (results_moved m k xs)
    where
      by : (t : Bool) → results_named ns (node_with m (region_set k moved) xs) + uses_there m k xs ≤ results_named (n ∷ ns) xs →
          results_named ns (if t then region_set k moved x ∷ xs else x ∷ node_with m (region_set k moved) xs)
          + result_uses (Out n port) (option_and_then (λ (y : FlatNode). slice_get y.regions k) (if t then Some x else found m xs)) ≤ results_named (n ∷ ns) (x ∷ xs)
      by true h = omega (arith, regions_moved k x.regions, results_more xs)
      by false h = omega (arith, h, regions_more x.regions)

  -- the results of a region do not depend on inputs
  there_still : (p : Place) (m k : ℕ) (xs : List FlatNode) → uses_there m k (map (inputs_at p move) xs) ≡ uses_there m k xs
  there_still p m k [] = refl
  there_still p m k (x ∷ xs) = by (same_place x.home p) ∙ by_number (x.id == m) (there_still p m k xs)
    where
      by : (t : Bool) → uses_there m k ((if t then record x { inputs = map move x.inputs } else x) ∷ map (inputs_at p move) xs)
          ≡ result_uses (Out n port) (option_and_then (λ (y : FlatNode). slice_get y.regions k) (if x.id == m then Some x else found m (map (inputs_at p move) xs)))
      by true = by_test (x.id == m)
        where
          by_test : (u : Bool) → result_uses (Out n port) (option_and_then (λ (y : FlatNode). slice_get y.regions k) (if u then Some (record x { inputs = map move x.inputs }) else found m (map (inputs_at p move) xs)))
              ≡ result_uses (Out n port) (option_and_then (λ (y : FlatNode). slice_get y.regions k) (if u then Some x else found m (map (inputs_at p move) xs)))
          by_test true = refl
          by_test false = refl
      by false = refl

      by_number : (u : Bool) → uses_there m k (map (inputs_at p move) xs) ≡ uses_there m k xs →
          result_uses (Out n port) (option_and_then (λ (y : FlatNode). slice_get y.regions k) (if u then Some x else found m (map (inputs_at p move) xs)))
          ≡ result_uses (Out n port) (option_and_then (λ (y : FlatNode). slice_get y.regions k) (if u then Some x else found m xs))
      by_number true h = refl
      by_number false h = h

  pub fewer_named : (p : Place) (a : Flat) → flat_named ns (uses_with p move a) + uses_in p (Out n port) a ≤ flat_named (n ∷ ns) a
  fewer_named p a = by p.node
    where
      by_body : (t : Bool) → named ns (map move a.body.results) + result_uses (Out n port) (if t then Some a.body else None) ≤ named (n ∷ ns) a.body.results
      by_body true = named_moved a.body.results
      by_body false = omega (arith, named_moved a.body.results)

      by : (o : Option ℕ) → flat_named ns (changed_in o p.region moved (record a { nodes = map (inputs_at p move) a.nodes }))
          + (input_uses p (Out n port) a.nodes + result_uses (Out n port) (region_of o p.region a)) ≤ flat_named (n ∷ ns) a
      by None = omega (arith, by_body (p.region == 0), inputs_moved p a.nodes, results_apart ns p a.nodes, results_more a.nodes)
      by (Some m) = omega (
        arith,
        named_more a.body.results,
        inputs_apart m p.region (map (inputs_at p move) a.nodes),
        inputs_moved p a.nodes,
        results_moved m p.region (map (inputs_at p move) a.nodes),
        there_still p m p.region a.nodes,
        results_apart (n ∷ ns) p a.nodes,
      )
