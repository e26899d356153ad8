-- Nodes that are neither a node nor in regions of it, and nodes that are not in a region.
use Rattle.std.proofs.Common.{◌≡◌, ◌≤◌, ◌+◌, ℕ, suc, ◌==◌, Bool, true, false, ◌&&◌, Option, None, Some, List, [], ◌∷◌, ◌++◌, refl, sym, ap, ◌∙◌, arith}
use Rattle.std.specs.Prelude.{if◌then◌else◌}
use Rattle.std.proofs.lemmas.Bool.{ne_eqb}
use Rattle.std.proofs.lemmas.Bool.Decides.{nat_tests}
use Rattle.g_graph.specs.declared.op.Kind.{Kind}
use Rattle.g_graph.specs.declared.op.Origin.{Origin}
use Rattle.g_graph.specs.Plain.{region, NodeTree, node, NodeTrees, no_nodes, node_then, RegionTrees, no_regions, region_then}
use Rattle.g_graph.specs.Ids.{node_ids, nodes_ids, regions_ids}
use Rattle.g_graph.proofs.lemmas.Unique.{times, times_append, times_cons}
use Rattle.g_arena_def.specs.declared.place.Place.{Place}
use Rattle.g_arena_def.specs.Flat.{FlatNode, place_in, in_region, in_nodes, in_node, in_regions, same_node, same_place}

-- ---- numbers that stand once

abbrev pub AreOnce : List ℕ → Type 0
AreOnce ns = (m : ℕ) → times m ns ≤ 1

pub times_head : (n : ℕ) (ns : List ℕ) → times n (n ∷ ns) ≡ suc (times n ns)
times_head n ns = times_cons n n ns ∙ grind (arith, nat_tests)

pub none_first : (m n : ℕ) (ns : List ℕ) → times m (n ∷ ns) ≡ 0 → ((n == m) ≡ false) × (times m ns ≡ 0)
none_first m n ns e = by_test (n == m) (sym (times_cons m n ns) ∙ e)
  where
    by_test : (t : Bool) → (if t then 1 else 0) + times m ns ≡ 0 → (t ≡ false) × (times m ns ≡ 0)
    by_test true q = absurd (omega (arith, q))
    by_test false q = (refl, omega (arith, q))

pub none_both : (m : ℕ) (xs ys : List ℕ) → times m (xs ++ ys) ≡ 0 → (times m xs ≡ 0) × (times m ys ≡ 0)
none_both m xs ys e = (omega (arith, e, times_append m xs ys), omega (arith, e, times_append m xs ys))

pub at_most_first : (m n : ℕ) (ns : List ℕ) → times m ns ≤ times m (n ∷ ns)
at_most_first m n ns = omega (arith, times_cons m n ns)

-- ---- nodes outside

-- neither the node of this number nor one that stands in a region of it
abbrev pub IsOutside : ℕ → FlatNode → Type 0
IsOutside m x = ((x.id == m) ≡ false) × (same_node x.home.node (Some m) ≡ false)

abbrev pub AreOutside : ℕ → List FlatNode → Type 0
AreOutside m [] = Unit {0}
AreOutside m (x ∷ xs) = IsOutside m x × AreOutside m xs

-- not in the region at this place itself
abbrev pub AreApart : Place → List FlatNode → Type 0
AreApart p [] = Unit {0}
AreApart p (x ∷ xs) = (same_place x.home p ≡ false) × AreApart p xs

pub outside_append : (m : ℕ) (xs ys : List FlatNode) → AreOutside m xs → AreOutside m ys → AreOutside m (xs ++ ys)
outside_append m [] ys h g = g
outside_append m (x ∷ xs) ys h g = (h.0, outside_append m xs ys h.1 g)

pub apart_append : (p : Place) (xs ys : List FlatNode) → AreApart p xs → AreApart p ys → AreApart p (xs ++ ys)
apart_append p [] ys h g = g
apart_append p (x ∷ xs) ys h g = (h.0, apart_append p xs ys h.1 g)

-- what is in no region of a node is in none of its places
pub place_apart : (m j : ℕ) (p : Place) → same_node p.node (Some m) ≡ false → same_place p (place_in m j) ≡ false
place_apart m j p h = ap (λ b. b && (p.region == j)) h

pub outside_apart : (m j : ℕ) (xs : List FlatNode) → AreOutside m xs → AreApart (place_in m j) xs
outside_apart m j [] h = tt
outside_apart m j (x ∷ xs) h = (place_apart m j x.home h.0.1, outside_apart m j xs h.1)

mutual
  pub nodes_outside : (m : ℕ) (p : Place) (ns : NodeTrees) → times m (nodes_ids ns) ≡ 0 → same_node p.node (Some m) ≡ false → AreOutside m (in_nodes p ns)
  nodes_outside m p no_nodes e h = tt
  nodes_outside m p (node_then x xs) e h =
      let q = none_both m (node_ids x) (nodes_ids xs) e in
      outside_append m (in_node p x) (in_nodes p xs) (node_outside m p x q.0 h) (nodes_outside m p xs q.1 h)

  pub node_outside : (m : ℕ) (p : Place) (x : NodeTree) → times m (node_ids x) ≡ 0 → same_node p.node (Some m) ≡ false → AreOutside m (in_node p x)
  node_outside m p (node id op inputs rs) e h =
      let q = none_first m id (regions_ids rs) e in
      ((q.0, h), regions_outside m id 0 rs q.1 q.0)

  pub regions_outside : (m n k : ℕ) (rs : RegionTrees) → times m (regions_ids rs) ≡ 0 → (n == m) ≡ false → AreOutside m (in_regions n k rs)
  regions_outside m n k no_regions e h = tt
  regions_outside m n k (region_then (region args ns results) rs) e h =
      let q = none_both m (nodes_ids ns) (regions_ids rs) e in
      outside_append m (in_nodes (place_in n k) ns) (in_regions n (suc k) rs) (nodes_outside m (place_in n k) ns q.0 h) (regions_outside m n (suc k) rs q.1 h)

-- ---- nodes apart

-- the node of a place is none of these
abbrev pub IsNone : Option ℕ → List ℕ → Type 0
IsNone None ns = Unit {0}
IsNone (Some m) ns = times m ns ≡ 0

pub none_of_both : (o : Option ℕ) (xs ys : List ℕ) → IsNone o (xs ++ ys) → IsNone o xs × IsNone o ys
none_of_both None xs ys h = (tt, tt)
none_of_both (Some m) xs ys h = none_both m xs ys h

pub none_of_rest : (o : Option ℕ) (n : ℕ) (ns : List ℕ) → IsNone o (n ∷ ns) → (same_node (Some n) o ≡ false) × IsNone o ns
none_of_rest None n ns h = (refl, tt)
none_of_rest (Some m) n ns h = none_first m n ns h

mutual
  -- nodes of a region at another place, in whose regions the place is none
  pub nodes_apart : (p q : Place) (ns : NodeTrees) → same_place q p ≡ false → IsNone p.node (nodes_ids ns) → AreApart p (in_nodes q ns)
  nodes_apart p q no_nodes h e = tt
  nodes_apart p q (node_then (node id op inputs rs) xs) h e =
      let both = none_of_both p.node (id ∷ regions_ids rs) (nodes_ids xs) e in
      let own = none_of_rest p.node id (regions_ids rs) both.0 in
      (h, apart_append p (in_regions id 0 rs) (in_nodes q xs) (regions_apart p id 0 rs own.0 own.1) (nodes_apart p q xs h both.1))

  pub regions_apart : (p : Place) (n k : ℕ) (rs : RegionTrees) → same_node (Some n) p.node ≡ false → IsNone p.node (regions_ids rs) → AreApart p (in_regions n k rs)
  regions_apart p n k no_regions h e = tt
  regions_apart p n k (region_then (region args ns results) rs) h e =
      let both = none_of_both p.node (nodes_ids ns) (regions_ids rs) e in
      apart_append p (in_nodes (place_in n k) ns) (in_regions n (suc k) rs)
      (nodes_apart p (place_in n k) ns (ap (λ b. b && (k == p.region)) h) both.0)
      (regions_apart p n (suc k) rs h both.1)

other_index : (n j k : ℕ) → (j ≡ k → ⊥) → same_place (place_in n j) (place_in n k) ≡ false
other_index n j k h = by_test (n == n) (ne_eqb j k h)
  where
    by_test : (t : Bool) → (j == k) ≡ false → (t && (j == k)) ≡ false
    by_test true e = e
    by_test false e = refl

-- regions of one node that stand before or after one of it
pub later_apart : (n k j : ℕ) (rs : RegionTrees) → suc k ≤ j → times n (regions_ids rs) ≡ 0 → AreApart (place_in n k) (in_regions n j rs)
later_apart n k j no_regions h e = tt
later_apart n k j (region_then (region args ns results) rs) h e =
    let both = none_both n (nodes_ids ns) (regions_ids rs) e in
    apart_append (place_in n k) (in_nodes (place_in n j) ns) (in_regions n (suc j) rs)
    (nodes_apart (place_in n k) (place_in n j) ns (other_index n j k (λ q. omega (arith, h, q))) both.0)
    (later_apart n k (suc j) rs (omega (arith, h)) both.1)

pub earlier_apart : (n k j : ℕ) (args : List Kind) (ns : NodeTrees) (results : List Origin) → suc j ≤ k → times n (nodes_ids ns) ≡ 0 → AreApart (place_in n k) (in_region (place_in n j) (region args ns results))
earlier_apart n k j args ns results h e = nodes_apart (place_in n k) (place_in n j) ns (other_index n j k (λ q. omega (arith, h, q))) e
