-- Uses of an origin, after changes that keep how often it stands in each list.
use Rattle.std.proofs.Common.{◌≡◌, ◌<◌, ◌+◌, ◌-◌, ◌&&◌, ◌==◌, nat_lt, ℕ, zero, suc, Bool, true, false, Option, None, Some, List, [], ◌∷◌, map, refl, sym, ap, ◌∙◌, arith}
use Rattle.std.specs.Prelude.{if◌then◌else◌, slice_get, option_and_then}
use Rattle.std.specs.List.{remove}
use Rattle.std.proofs.lemmas.Bool.Decides.{nat_tests}
use Rattle.g_graph.specs.declared.op.Origin.{Origin}
use Rattle.g_graph.specs.declared.op.Origin.TheVariants.{Arg, Out}
use Rattle.g_graph.specs.Scope.{same_origin}
use Rattle.g_graph.proofs.lemmas.Unique.{equal_back}
use Rattle.g_arena_def.specs.declared.place.Place.{Place}
use Rattle.g_arena_def.specs.Flat.{FlatRegion, FlatNode, Flat, place_in, same_node, same_place}
use Rattle.g_arena_def.specs.Reads.{found, region_of, times, input_uses, result_uses, uses_in}
use Rattle.g_arena_def.specs.Edits.{node_with, at_with, changed_in, region_with, inputs_at, uses_with, output_less, argument_less, result_removed}
use Rattle.r_sweep.proofs.lemmas.Around.{region_set}
use Rattle.r_sweep.proofs.lemmas.Edits.{found_apart}

-- ---- lists of origins

-- what a step for a later output, or a later argument, does to an earlier one
pub output_times : (n k c i : ℕ) → i < k → (os : List Origin) → times (Out n i) (map (output_less n k c) os) ≡ times (Out n i) os
output_times n k c i h [] = refl
output_times n k c i h (o ∷ os) = λ j. (if by o j then 1 else 0) + output_times n k c i h os j
  where
    less : (q : ℕ) (t : Bool) → nat_lt k q ≡ t → (u : Bool) → (i == (if t && u then q - 1 else q)) ≡ (i == q)
    less q false e u = refl
    less q true e false = refl
    less q true e true =
        let far : (i == q) ≡ false = grind (arith, nat_tests, h, e) in
        let near : (i == (q - 1)) ≡ false = grind (arith, nat_tests, h, e) in
        near ∙ sym far

    inner : (m q : ℕ) (s t u : Bool) → same_origin (Out n i) (if s && (t && u) then Out m (q - 1) else Out m q) ≡ (n == m) && (i == (if s && (t && u) then q - 1 else q))
    inner m q false t u = refl
    inner m q true false u = refl
    inner m q true true false = refl
    inner m q true true true = refl

    own : (m q : ℕ) (s : Bool) → (n == m) && (i == (if s && (nat_lt k q && nat_lt q c) then q - 1 else q)) ≡ (n == m) && (i == q)
    own m q false = refl
    own m q true = ap (λ t. (n == m) && t) (less q (nat_lt k q) refl (nat_lt q c))

    by : (p : Origin) → same_origin (Out n i) (output_less n k c p) ≡ same_origin (Out n i) p
    by (Arg q) = refl
    by (Out m q) = inner m q (m == n) (nat_lt k q) (nat_lt q c) ∙ own m q (m == n)

pub argument_times : (k c i : ℕ) → i < k → (os : List Origin) → times (Arg i) (map (argument_less k c) os) ≡ times (Arg i) os
argument_times k c i h [] = refl
argument_times k c i h (o ∷ os) = λ j. (if by o j then 1 else 0) + argument_times k c i h os j
  where
    inner : (q : ℕ) (t u : Bool) → nat_lt k q ≡ t → same_origin (Arg i) (if t && u then Arg (q - 1) else Arg q) ≡ (i == q)
    inner q false u e = refl
    inner q true false e = refl
    inner q true true e =
        let far : (i == q) ≡ false = grind (arith, nat_tests, h, e) in
        let near : (i == (q - 1)) ≡ false = grind (arith, nat_tests, h, e) in
        near ∙ sym far

    by : (p : Origin) → same_origin (Arg i) (argument_less k c p) ≡ same_origin (Arg i) p
    by (Arg q) = inner q (nat_lt k q) (nat_lt q c) refl
    by (Out m q) = refl

-- arguments are no outputs, and outputs no arguments
pub output_apart : (n k c i : ℕ) (os : List Origin) → times (Arg i) (map (output_less n k c) os) ≡ times (Arg i) os
output_apart n k c i [] = refl
output_apart n k c i (o ∷ os) = λ j. (if by o j then 1 else 0) + output_apart n k c i os j
  where
    inner : (m q : ℕ) (t : Bool) → same_origin (Arg i) (if t then Out m (q - 1) else Out m q) ≡ false
    inner m q true = refl
    inner m q false = refl

    by : (p : Origin) → same_origin (Arg i) (output_less n k c p) ≡ same_origin (Arg i) p
    by (Arg q) = refl
    by (Out m q) = inner m q ((m == n) && (nat_lt k q && nat_lt q c))

-- ---- nodes with the same uses of an origin

module _ (o : Origin) where
  pub record SameUses (x y : FlatNode) : Type 0 where
    pub id : y.id ≡ x.id
    pub home : y.home ≡ x.home
    pub inputs : times o y.inputs ≡ times o x.inputs
    pub results : (k : ℕ) → result_uses o (slice_get y.regions k) ≡ result_uses o (slice_get x.regions k)

  pub data AllSame : List FlatNode → List FlatNode → Type 0 where
    no_node : AllSame [] []
    one_node : (x y : FlatNode) (xs ys : List FlatNode) → SameUses x y → AllSame xs ys → AllSame (x ∷ xs) (y ∷ ys)

  pub same_itself : (x : FlatNode) → SameUses x x
  same_itself x = record { id = refl; home = refl; inputs = refl; results = λ k. refl }

  pub all_themselves : (xs : List FlatNode) → AllSame xs xs
  all_themselves [] = no_node
  all_themselves (x ∷ xs) = one_node x x xs xs (same_itself x) (all_themselves xs)

  abbrev results_there : (m k : ℕ) → List FlatNode → ℕ
  results_there m k xs = result_uses o (option_and_then (λ (x : FlatNode). slice_get x.regions k) (found m xs))

  inputs_all : (q : Place) (xs ys : List FlatNode) → AllSame xs ys → input_uses q o ys ≡ input_uses q o xs
  inputs_all q _ _ no_node = refl
  inputs_all q _ _ (one_node x y xs ys h rest) = let r = inputs_all q xs ys rest in λ i. (if same_place (h.home i) q then h.inputs i else 0) + r i

  results_all : (m k : ℕ) (xs ys : List FlatNode) → AllSame xs ys → results_there m k ys ≡ results_there m k xs
  results_all m k _ _ no_node = refl
  results_all m k _ _ (one_node x y xs ys h rest) =
      ap (λ i. result_uses o (option_and_then (λ (z : FlatNode). slice_get z.regions k) (if i == m then Some y else found m ys))) h.id ∙ by (x.id == m) (results_all m k xs ys rest)
    where
      by : (t : Bool) → results_there m k ys ≡ results_there m k xs →
          result_uses o (option_and_then (λ (z : FlatNode). slice_get z.regions k) (if t then Some y else found m ys))
          ≡ result_uses o (option_and_then (λ (z : FlatNode). slice_get z.regions k) (if t then Some x else found m xs))
      by true r = h.results k
      by false r = r

  pub uses_all : (q : Place) (a b : Flat) → AllSame a.nodes b.nodes → times o b.body.results ≡ times o a.body.results → uses_in q o b ≡ uses_in q o a
  uses_all q a b h e = λ i. inputs_all q a.nodes b.nodes h i + by q.node i
    where
      by_body : (t : Bool) → result_uses o (if t then Some b.body else None) ≡ result_uses o (if t then Some a.body else None)
      by_body true = e
      by_body false = refl

      by : (m : Option ℕ) → result_uses o (region_of m q.region b) ≡ result_uses o (region_of m q.region a)
      by None = by_body (q.region == 0)
      by (Some m) = results_all m q.region a.nodes b.nodes h

  -- a change of one node that keeps them
  pub with_same : (n : ℕ) (g : FlatNode → FlatNode) → ((x : FlatNode) → SameUses x (g x)) → (xs : List FlatNode) → AllSame xs (node_with n g xs)
  with_same n g h [] = no_node
  with_same n g h (x ∷ xs) = by (x.id == n) (with_same n g h xs)
    where
      by : (t : Bool) → AllSame xs (node_with n g xs) → AllSame (x ∷ xs) (if t then g x ∷ xs else x ∷ node_with n g xs)
      by true r = one_node x (g x) xs xs (h x) (all_themselves xs)
      by false r = one_node x x xs (node_with n g xs) (same_itself x) r

  at_same : (k : ℕ) (h : FlatRegion → FlatRegion) → ((r : FlatRegion) → times o (h r).results ≡ times o r.results) → (rs : List FlatRegion) (j : ℕ) →
      result_uses o (slice_get (at_with k h rs) j) ≡ result_uses o (slice_get rs j)
  at_same k h e [] j = refl
  at_same zero h e (r ∷ rs) zero = e r
  at_same zero h e (r ∷ rs) (suc j) = refl
  at_same (suc k) h e (r ∷ rs) zero = refl
  at_same (suc k) h e (r ∷ rs) (suc j) = at_same k h e rs j

  -- a change of one region that keeps them
  pub region_same : (q p : Place) (h : FlatRegion → FlatRegion) → ((r : FlatRegion) → times o (h r).results ≡ times o r.results) → (a : Flat) → uses_in q o (region_with p h a) ≡ uses_in q o a
  region_same q p h e a = by p.node
    where
      by : (m : Option ℕ) → uses_in q o (changed_in m p.region h a) ≡ uses_in q o a
      by None = uses_all q a (record a { body = h a.body }) (all_themselves a.nodes) (e a.body)
      by (Some n) =
          uses_all q a (record a { nodes = node_with n (region_set p.region h) a.nodes })
          (with_same n (region_set p.region h) (λ x. record { id = refl; home = refl; inputs = refl; results = λ k. at_same p.region h e x.regions k }) a.nodes) refl

  inputs_same : (f : Origin → Origin) → ((os : List Origin) → times o (map f os) ≡ times o os) → (p : Place) (xs : List FlatNode) → AllSame xs (map (inputs_at p f) xs)
  inputs_same f e p [] = no_node
  inputs_same f e p (x ∷ xs) = one_node x (inputs_at p f x) xs (map (inputs_at p f) xs) (by (same_place x.home p)) (inputs_same f e p xs)
    where
      by : (t : Bool) → SameUses x (if t then record x { inputs = map f x.inputs } else x)
      by true = record { id = refl; home = refl; inputs = e x.inputs; results = λ k. refl }
      by false = same_itself x

  -- uses in a region that come from other origins, where this one is kept
  pub uses_same : (f : Origin → Origin) → ((os : List Origin) → times o (map f os) ≡ times o os) → (q p : Place) (a : Flat) → uses_in q o (uses_with p f a) ≡ uses_in q o a
  uses_same f e q p a =
      region_same q p (λ (r : FlatRegion). record r { results = map f r.results }) (λ r. e r.results) (record a { nodes = map (inputs_at p f) a.nodes })
      ∙ uses_all q a (record a { nodes = map (inputs_at p f) a.nodes }) (inputs_same f e p a.nodes) refl

  -- a result of a region of another node
  inputs_set : (q : Place) (n k : ℕ) (h : FlatRegion → FlatRegion) (xs : List FlatNode) → input_uses q o (node_with n (region_set k h) xs) ≡ input_uses q o xs
  inputs_set q n k h [] = refl
  inputs_set q n k h (x ∷ xs) = by (x.id == n) (inputs_set q n k h xs)
    where
      by : (t : Bool) → input_uses q o (node_with n (region_set k h) xs) ≡ input_uses q o xs → input_uses q o (if t then region_set k h x ∷ xs else x ∷ node_with n (region_set k h) xs) ≡ input_uses q o (x ∷ xs)
      by true r = refl
      by false r = ap (λ c. (if same_place x.home q then times o x.inputs else 0) + c) r

  pub result_apart : (q : Place) (n j k : ℕ) (a : Flat) → same_node q.node (Some n) ≡ false → uses_in q o (result_removed (place_in n j) k a) ≡ uses_in q o a
  result_apart q n j k a e = λ i. inputs_set q n j (λ (r : FlatRegion). record r { results = remove r.results k }) a.nodes i + by q.node e i
    where
      by : (m : Option ℕ) → same_node m (Some n) ≡ false → result_uses o (region_of m q.region (result_removed (place_in n j) k a)) ≡ result_uses o (region_of m q.region a)
      by None d = refl
      by (Some m) d = ap (λ y. result_uses o (option_and_then (λ (z : FlatNode). slice_get z.regions q.region) y)) (found_apart m n (region_set j (λ (r : FlatRegion). record r { results = remove r.results k })) a.nodes (λ y. refl) (equal_back n m ∙ d))
