-- Uses that name one of some nodes, where an exit variable goes.
use Rattle.std.proofs.Common.{◌≡◌, ◌≤◌, ◌+◌, ◌&&◌, ◌||◌, ◌==◌, ◌-◌, nat_lt, ℕ, zero, suc, Bool, true, false, Some, List, [], ◌∷◌, map, length, refl, sym, ap, ◌∙◌, arith}
use Rattle.std.specs.Prelude.{if◌then◌else◌}
use Rattle.std.specs.List.{remove, list_any}
use Rattle.g_graph.specs.declared.op.Origin.{Origin}
use Rattle.g_graph.specs.declared.op.Origin.TheVariants.{Arg, Out}
use Rattle.g_arena_def.specs.Flat.{FlatRegion, FlatNode, Flat, place_in, is_in}
use Rattle.g_arena_def.specs.Reads.{found}
use Rattle.g_arena_def.specs.Edits.{node_with, at_with, uses_with, output_less, outputs_follow, output_removed, result_removed}
use Rattle.r_sweep.specs.Removals.{each_of, exit_removed}
use Rattle.r_sweep.proofs.lemmas.Around.{region_set}
use Rattle.r_sweep.specs.Measure.{named, inputs_named, regions_named, results_named, flat_named}
use Rattle.r_inv.proofs.Alike.{Pairs, no_node, one_node, pairs_with, pairs_uses, body_uses}

-- how often an origin counts
abbrev weight : List ℕ → Origin → ℕ
weight ns (Arg k) = 0
weight ns (Out n k) = if is_in ns (Some n) then 1 else 0

named_first : (ns : List ℕ) (o : Origin) (os : List Origin) → named ns (o ∷ os) ≡ weight ns o + named ns os
named_first ns (Arg k) os = omega arith
named_first ns (Out n k) os = refl

-- ---- by the same numbers

module _ (ns ks : List ℕ) (same : (m : ℕ) → is_in ns (Some m) ≡ is_in ks (Some m)) where
  named_same : (os : List Origin) → named ns os ≡ named ks os
  named_same [] = refl
  named_same (Arg k ∷ os) = named_same os
  named_same (Out m k ∷ os) = let r = named_same os in λ i. (if same m i then 1 else 0) + r i

  regions_same : (rs : List FlatRegion) → regions_named ns rs ≡ regions_named ks rs
  regions_same [] = refl
  regions_same (r ∷ rs) = let q = regions_same rs in λ i. named_same r.results i + q i

  inputs_same : (xs : List FlatNode) → inputs_named ns xs ≡ inputs_named ks xs
  inputs_same [] = refl
  inputs_same (x ∷ xs) = let q = inputs_same xs in λ i. named_same x.inputs i + q i

  results_same : (xs : List FlatNode) → results_named ns xs ≡ results_named ks xs
  results_same [] = refl
  results_same (x ∷ xs) = let q = results_same xs in λ i. regions_same x.regions i + q i

  flat_same : (a : Flat) → flat_named ns a ≡ flat_named ks a
  flat_same a = λ i. named_same a.body.results i + inputs_same a.nodes i + results_same a.nodes i

pub named_twice : (n : ℕ) (ns : List ℕ) (a : Flat) → flat_named (n ∷ n ∷ ns) a ≡ flat_named (n ∷ ns) a
named_twice n ns a = flat_same (n ∷ n ∷ ns) (n ∷ ns) (λ m. by (m == n) (list_any (λ j. m == j) ns)) a
  where
    by : (t u : Bool) → (t || (t || u)) ≡ (t || u)
    by true u = refl
    by false u = refl

-- ---- fewer

module _ (ns : List ℕ) where
  pub record Fewer (x y : FlatNode) : Type 0 where
    pub inputs : named ns y.inputs ≤ named ns x.inputs
    pub results : regions_named ns y.regions ≤ regions_named ns x.regions

  pub record AreFewer (a b : Flat) : Type 0 where
    pub body : named ns b.body.results ≤ named ns a.body.results
    pub nodes : Pairs Fewer a.nodes b.nodes

  fewer_itself : (x : FlatNode) → Fewer x x
  fewer_itself x = record { inputs = omega arith; results = omega arith }

  fewer_through : (x y z : FlatNode) → Fewer x y → Fewer y z → Fewer x z
  fewer_through x y z h g = record { inputs = omega (arith, h.inputs, g.inputs); results = omega (arith, h.results, g.results) }

  fewer_pairs : (xs ys : List FlatNode) → Pairs Fewer xs ys → inputs_named ns ys + results_named ns ys ≤ inputs_named ns xs + results_named ns xs
  fewer_pairs _ _ no_node = omega arith
  fewer_pairs _ _ (one_node x y xs ys h p) = omega (arith, h.inputs, h.results, fewer_pairs xs ys p)

  are_fewer : (a b : Flat) → AreFewer a b → flat_named ns b ≤ flat_named ns a
  are_fewer a b h = omega (arith, h.body, fewer_pairs a.nodes b.nodes h.nodes)

  -- a list without an element
  named_less : (k : ℕ) (os : List Origin) → named ns (remove os k) ≤ named ns os
  named_less zero [] = omega arith
  named_less (suc k) [] = omega arith
  named_less zero (o ∷ os) = omega (arith, named_first ns o os)
  named_less (suc k) (o ∷ os) = omega (arith, named_first ns o os, named_first ns o (remove os k), named_less k os)

  -- names that follow keep their nodes
  named_follow : (n k c : ℕ) (os : List Origin) → named ns (map (output_less n k c) os) ≡ named ns os
  named_follow n k c [] = refl
  named_follow n k c (o ∷ os) =
      named_first ns (output_less n k c o) (map (output_less n k c) os) ∙ (λ i. one o i + named_follow n k c os i) ∙ sym (named_first ns o os)
    where
      by : (m q : ℕ) (t : Bool) → weight ns (if t then Out m (q - 1) else Out m q) ≡ weight ns (Out m q)
      by m q true = refl
      by m q false = refl

      one : (p : Origin) → weight ns (output_less n k c p) ≡ weight ns p
      one (Arg q) = refl
      one (Out m q) = by m q ((m == n) && (nat_lt k q && nat_lt q c))

  regions_with_less : (k : ℕ) (f : FlatRegion → FlatRegion) → ((r : FlatRegion) → named ns (f r).results ≤ named ns r.results) → (rs : List FlatRegion) → regions_named ns (at_with k f rs) ≤ regions_named ns rs
  regions_with_less k f h [] = omega arith
  regions_with_less zero f h (r ∷ rs) = omega (arith, h r)
  regions_with_less (suc k) f h (r ∷ rs) = omega (arith, regions_with_less k f h rs)

  fewer_output : (n k : ℕ) (x : FlatNode) (a : Flat) → found n a.nodes ≡ Some x → x.id ≡ n → flat_named ns (output_removed n k a) ≤ flat_named ns a
  fewer_output n k x a e i =
      let g = output_less x.id k (length x.outputs) in
      let b : Flat = record a { nodes = node_with x.id (λ (y : FlatNode). record y { outputs = remove y.outputs k }) a.nodes } in
      let first : AreFewer a b = record {
        body = omega arith;
        nodes = pairs_with Fewer fewer_itself fewer_through x.id (λ (y : FlatNode). record y { outputs = remove y.outputs k }) (λ y q. record { inputs = omega arith; results = omega arith }) a.nodes;
      } in
      let same : (os : List Origin) → named ns (map g os) ≤ named ns os = λ os. omega (arith, named_follow x.id k (length x.outputs) os) in
      let second : AreFewer b (uses_with x.home g b) = record {
        body = body_uses (λ (r : FlatRegion). named ns r.results ≤ named ns b.body.results) x.home g b (omega arith) (same b.body.results);
        nodes = pairs_uses Fewer fewer_itself fewer_through x.home g (λ y. record { inputs = same y.inputs; results = omega arith })
            (λ j y. record { inputs = omega arith; results = regions_with_less j (λ (r : FlatRegion). record r { results = map g r.results }) (λ r. same r.results) y.regions }) b;
      } in
      omega (arith, are_fewer a b first, are_fewer b (uses_with x.home g b) second, ap (λ o. flat_named ns (outputs_follow o k a)) e)

  fewer_result : (n j k : ℕ) (a : Flat) → flat_named ns (result_removed (place_in n j) k a) ≤ flat_named ns a
  fewer_result n j k a =
      are_fewer a (result_removed (place_in n j) k a) (record {
        body = omega arith;
        nodes = pairs_with Fewer fewer_itself fewer_through n (region_set j (λ (r : FlatRegion). record r { results = remove r.results k }))
            (λ y q. record { inputs = omega arith; results = regions_with_less j (λ (r : FlatRegion). record r { results = remove r.results k }) (λ r. named_less k r.results) y.regions }) a.nodes;
      })

  fewer_results : (n c k : ℕ) (a : Flat) → flat_named ns (each_of (λ j. result_removed (place_in n j) k) c a) ≤ flat_named ns a
  fewer_results n zero k a = omega arith
  fewer_results n (suc c) k a = omega (arith, fewer_results n c k a, fewer_result n c k (each_of (λ j. result_removed (place_in n j) k) c a))

  pub fewer_exit : (n c k : ℕ) (x : FlatNode) (a : Flat) → found n a.nodes ≡ Some x → x.id ≡ n → flat_named ns (exit_removed n c k a) ≤ flat_named ns a
  fewer_exit n c k x a e i = omega (arith, fewer_results n c k (output_removed n k a), fewer_output n k x a e i)
