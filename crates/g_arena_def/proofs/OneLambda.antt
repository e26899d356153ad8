-- A list of nodes in pre-order is that of one lambda: which nodes are in a region is seen by their places.
use Rattle.std.proofs.Common.{◌≡◌, ℕ, suc, ◌<◌, Bool, true, false, ◌&&◌, ◌||◌, not, eqb, Option, Some, None, List, [], ◌∷◌, ◌++◌, refl, ap, sym, ◌∙◌, subst, append_assoc, arith, true≢false}
use Rattle.std.specs.List.{list_any}
use Rattle.std.proofs.lemmas.Bool.{eq-eqb, ne_eqb, or_parts, or_from}
use Rattle.std.proofs.lemmas.List.Folds.{list_any-append}
use Rattle.g_graph.specs.declared.op.Kind.{Kind}
use Rattle.g_graph.specs.declared.op.Op.{Op}
use Rattle.g_graph.specs.declared.op.Origin.{Origin}
use Rattle.g_graph.specs.Plain.{RegionTree, region, node, NodeTrees, no_nodes, node_then, RegionTrees, no_regions, region_then}
use Rattle.g_graph.specs.Ids.{region_ids, nodes_ids, regions_ids}
use Rattle.g_graph.specs.WellFormed.{distinct, some_of}
use Rattle.g_arena_def.specs.declared.place.Place.{Place}
use Rattle.g_arena_def.specs.Flat.{FlatRegion, FlatNode, Flat, body_place, place_in, regions_flat, in_region, in_nodes, in_regions, region_flat, same_node, same_place, is_in}
use Rattle.g_arena_def.specs.Laws.{FlatIsOfOneLambda}

-- the head and the tail of a list
head_or : {A : Type 0} → A → List A → A
head_or d [] = d
head_or d (x ∷ xs) = x

tail_of : {A : Type 0} → List A → List A
tail_of [] = []
tail_of (x ∷ xs) = xs

same_head : {A : Type 0} (x y : A) (xs ys : List A) → x ∷ xs ≡ y ∷ ys → x ≡ y
unfolding head_or
same_head x y xs ys e = ap (head_or x) e

same_tail : {A : Type 0} (x y : A) (xs ys : List A) → x ∷ xs ≡ y ∷ ys → xs ≡ ys
unfolding tail_of
same_tail x y xs ys e = ap tail_of e

-- no number stands twice
abbrev Once : List ℕ → Type 0
Once [] = Unit {0}
Once (n ∷ ns) = (is_in ns (Some n) ≡ false) × Once ns

is_in-append : (ns ms : List ℕ) (o : Option ℕ) → is_in (ns ++ ms) o ≡ is_in ns o || is_in ms o
is_in-append ns ms None = refl
is_in-append ns ms (Some n) = list_any-append (λ m. eqb n m) ns ms

in_parts : (ns ms : List ℕ) (o : Option ℕ) → is_in (ns ++ ms) o ≡ false → (is_in ns o ≡ false) × (is_in ms o ≡ false)
in_parts ns ms o h = or_parts _ _ (sym (is_in-append ns ms o) ∙ h)

once_parts : (ns ms : List ℕ) → Once (ns ++ ms) → Once ns × Once ms
once_parts [] ms d = (tt, d)
once_parts (n ∷ ns) ms d = let p = once_parts ns ms d.1 in ((((in_parts ns ms (Some n) d.0).0, p.0)), p.1)

-- a number alone
in_cons : (n : ℕ) (ns : List ℕ) (o : Option ℕ) → is_in (n ∷ []) o ≡ false → is_in ns o ≡ false → is_in (n ∷ ns) o ≡ false
in_cons n ns None h k = refl
in_cons n ns (Some m) h k = or_from _ _ (or_parts (eqb m n) false h).0 k

in_cons_parts : (n : ℕ) (ns : List ℕ) (o : Option ℕ) → is_in (n ∷ ns) o ≡ false → (is_in (n ∷ []) o ≡ false) × (is_in ns o ≡ false)
in_cons_parts n ns None h = (refl, refl)
in_cons_parts n ns (Some m) h = let p = or_parts (eqb m n) (list_any (λ k. eqb m k) ns) h in (or_from _ _ p.0 refl, p.1)

-- a place is itself, and is not one of another node or of another index
same_place-self : (p : Place) → same_place p p ≡ true
same_place-self p = by_node p.node p.region
  where
    by_node : (o : Option ℕ) (k : ℕ) → (same_node o o && eqb k k) ≡ true
    by_node None k = eq-eqb k k refl
    by_node (Some n) k = ap (λ b. b && eqb k k) (eq-eqb n n refl) ∙ eq-eqb k k refl

other_node : (p : Place) (n k : ℕ) → is_in (n ∷ []) p.node ≡ false → same_place p (place_in n k) ≡ false
other_node p n k h = by_node p.node p.region h
  where
    by_node : (o : Option ℕ) (j : ℕ) → is_in (n ∷ []) o ≡ false → (same_node o (Some n) && eqb j k) ≡ false
    by_node None j e = refl
    by_node (Some m) j e = ap (λ b. b && eqb j k) (or_parts (eqb m n) false e).0

other_index : (n j k : ℕ) → k < j → same_place (place_in n j) (place_in n k) ≡ false
other_index n j k lt = ap (λ b. b && eqb j k) (eq-eqb n n refl) ∙ ne_eqb j k (λ e. omega (arith, e, lt))

-- the first of these nodes, if there is one, is in no region of these nodes; nor in the region at the place
abbrev IsBehind : List ℕ → List FlatNode → Type 0
IsBehind ns [] = Unit {0}
IsBehind ns (x ∷ xs) = is_in ns x.home.node ≡ false

abbrev IsOutside : Place → List ℕ → List FlatNode → Type 0
IsOutside p ns [] = Unit {0}
IsOutside p ns (x ∷ xs) = (same_place x.home p ≡ false) × (is_in ns x.home.node ≡ false)

-- nodes of a region at a place, and what stands behind them
record Fits (p : Place) (ns : NodeTrees) (us : List FlatNode) : Type 0 where
  once : Once (nodes_ids ns)
  apart : is_in (nodes_ids ns) p.node ≡ false
  outside : IsOutside p (nodes_ids ns) us

-- regions of a node, and what stands behind their nodes
record FitsIn (n : ℕ) (rs : RegionTrees) (us : List FlatNode) : Type 0 where
  once : Once (regions_ids rs)
  apart : is_in (regions_ids rs) (Some n) ≡ false
  behind : IsBehind (n ∷ regions_ids rs) us

outside_right : (p : Place) (ns ms : List ℕ) (us : List FlatNode) → IsOutside p (ns ++ ms) us → IsOutside p ms us
outside_right p ns ms [] h = tt
outside_right p ns ms (x ∷ xs) h = (h.0, (in_parts ns ms x.home.node h.1).1)

later_fits : (p : Place) (id : ℕ) (op : Op) (inputs : List Origin) (rs : RegionTrees) (xs : NodeTrees) (us : List FlatNode) → Fits p (node_then (node id op inputs rs) xs) us → Fits p xs us
later_fits p id op inputs rs xs us f = record {
  once = (once_parts (id ∷ regions_ids rs) (nodes_ids xs) f.once).1;
  apart = (in_parts (id ∷ regions_ids rs) (nodes_ids xs) p.node f.apart).1;
  outside = outside_right p (id ∷ regions_ids rs) (nodes_ids xs) us f.outside;
}

behind_node : (p : Place) (ns ms : List ℕ) (xs : NodeTrees) (us : List FlatNode) → is_in (ns ++ ms) p.node ≡ false → IsOutside p (ns ++ ms) us → IsBehind ns (in_nodes p xs ++ us)
behind_node p ns ms no_nodes [] a h = tt
behind_node p ns ms no_nodes (u ∷ us) a h = (in_parts ns ms u.home.node h.1).0
behind_node p ns ms (node_then (node id op inputs rs) xs) us a h = (in_parts ns ms p.node a).0

regions_fit_in : (p : Place) (id : ℕ) (op : Op) (inputs : List Origin) (rs : RegionTrees) (xs : NodeTrees) (us : List FlatNode)
    → Fits p (node_then (node id op inputs rs) xs) us → FitsIn id rs (in_nodes p xs ++ us)
regions_fit_in p id op inputs rs xs us f = record {
  once = (once_parts (id ∷ regions_ids rs) (nodes_ids xs) f.once).0.1;
  apart = (once_parts (id ∷ regions_ids rs) (nodes_ids xs) f.once).0.0;
  behind = behind_node p (id ∷ regions_ids rs) (nodes_ids xs) xs us f.apart f.outside;
}

later_in : (n : ℕ) (ns ms : List ℕ) (us : List FlatNode) → IsBehind (n ∷ ns ++ ms) us → IsBehind (n ∷ ms) us
later_in n ns ms [] h = tt
later_in n ns ms (x ∷ xs) h =
    let p = in_cons_parts n (ns ++ ms) x.home.node h in
    in_cons n ms x.home.node p.0 (in_parts ns ms x.home.node p.1).1

later_regions : (n : ℕ) (args : List Kind) (ns : NodeTrees) (results : List Origin) (rs : RegionTrees) (us : List FlatNode) → FitsIn n (region_then (region args ns results) rs) us → FitsIn n rs us
later_regions n args ns results rs us f = record {
  once = (once_parts (nodes_ids ns) (regions_ids rs) f.once).1;
  apart = (in_parts (nodes_ids ns) (regions_ids rs) (Some n) f.apart).1;
  behind = later_in n (nodes_ids ns) (regions_ids rs) us f.behind;
}

-- what stands behind the nodes of a region of a node: the nodes of its later regions, and what stands behind these
outside_region : (n k j : ℕ) (ns ms : List ℕ) (rs : RegionTrees) (us : List FlatNode) → k < j → is_in ns (Some n) ≡ false → IsBehind (n ∷ ns ++ ms) us
    → IsOutside (place_in n k) ns (in_regions n j rs ++ us)
outside_region n k j ns ms no_regions [] lt a h = tt
outside_region n k j ns ms no_regions (u ∷ us) lt a h =
    let p = in_cons_parts n (ns ++ ms) u.home.node h in
    (other_node u.home n k p.0, (in_parts ns ms u.home.node p.1).0)
outside_region n k j ns ms (region_then (region args no_nodes results) rs) us lt a h = outside_region n k (suc j) ns ms rs us (omega (arith, lt)) a h
outside_region n k j ns ms (region_then (region args (node_then (node id op inputs ss) xs) results) rs) us lt a h = (other_index n j k lt, a)

region_fits : (n k : ℕ) (args : List Kind) (ns : NodeTrees) (results : List Origin) (rs : RegionTrees) (us : List FlatNode)
    → FitsIn n (region_then (region args ns results) rs) us → Fits (place_in n k) ns (in_regions n (suc k) rs ++ us)
region_fits n k args ns results rs us f =
    let a = in_parts (nodes_ids ns) (regions_ids rs) (Some n) f.apart in
    record {
      once = (once_parts (nodes_ids ns) (regions_ids rs) f.once).0;
      apart = a.0;
      outside = outside_region n k (suc k) (nodes_ids ns) (regions_ids rs) rs us (omega arith) a.0 f.behind;
    }

-- a node cannot stand where none of its region does
not_outside : (p : Place) (ns : List ℕ) (x : FlatNode) (xs us : List FlatNode) → us ≡ x ∷ xs → x.home ≡ p → IsOutside p ns us → ⊥
not_outside p ns x xs [] e h o = cc
not_outside p ns x xs (u ∷ us) e h o =
    let q : u.home ≡ p = ap (λ (v : FlatNode). v.home) (same_head u x us xs e) ∙ h in
    true≢false (sym (same_place-self p) ∙ ap (λ r. same_place r p) (sym q) ∙ o.0)

mutual
  nodes_once : (ns ms : NodeTrees) (p : Place) (us vs : List FlatNode) → Fits p ns us → Fits p ms vs → in_nodes p ns ++ us ≡ in_nodes p ms ++ vs → (ns ≡ ms) × (us ≡ vs)
  nodes_once no_nodes no_nodes p us vs f g e = (refl, e)
  nodes_once no_nodes (node_then (node id op inputs rs) ys) p us vs f g e = absurd (not_outside p [] _ _ us e refl f.outside)
  nodes_once (node_then (node id op inputs rs) xs) no_nodes p us vs f g e = absurd (not_outside p [] _ _ vs (sym e) refl g.outside)
  nodes_once (node_then (node id op inputs rs) xs) (node_then (node id' op' inputs' rs') ys) p us vs f g e =
      let h = same_head _ _ _ _ e in
      let t = same_tail _ _ _ _ e in
      let ids : id ≡ id' = ap (λ (v : FlatNode). v.id) h in
      let P : ℕ → Type 0 = λ n. FitsIn n rs' (in_nodes p ys ++ vs) in
      let t' : in_regions id 0 rs ++ (in_nodes p xs ++ us) ≡ in_regions id 0 rs' ++ (in_nodes p ys ++ vs) =
      sym (append_assoc (in_regions id 0 rs) (in_nodes p xs) us) ∙ t ∙ append_assoc (in_regions id' 0 rs') (in_nodes p ys) vs
      ∙ ap (λ n. in_regions n 0 rs' ++ (in_nodes p ys ++ vs)) (sym ids) in
      let r = regions_once rs rs' id 0 (in_nodes p xs ++ us) (in_nodes p ys ++ vs) (regions_fit_in p id op inputs rs xs us f)
      (subst P (sym ids) (regions_fit_in p id' op' inputs' rs' ys vs g)) (ap (λ (v : FlatNode). v.regions) h) t' in
      let s = nodes_once xs ys p us vs (later_fits p id op inputs rs xs us f) (later_fits p id' op' inputs' rs' ys vs g) r.1 in (
        λ i. node_then (node (ids i) (ap (λ (v : FlatNode). v.op) h i) (ap (λ (v : FlatNode). v.inputs) h i) (r.0 i)) (s.0 i),
        s.1,
      )

  regions_once : (rs ss : RegionTrees) (n k : ℕ) (us vs : List FlatNode) → FitsIn n rs us → FitsIn n ss vs → regions_flat rs ≡ regions_flat ss → in_regions n k rs ++ us ≡ in_regions n k ss ++ vs →
      (rs ≡ ss) × (us ≡ vs)
  regions_once no_regions no_regions n k us vs f g h e = (refl, e)
  regions_once no_regions (region_then s ss) n k us vs f g h e = cc
  regions_once (region_then r rs) no_regions n k us vs f g h e = cc
  regions_once (region_then (region args ns results) rs) (region_then (region args' ms results') ss) n k us vs f g h e =
      let q = same_head _ _ _ _ h in
      let e' : in_nodes (place_in n k) ns ++ (in_regions n (suc k) rs ++ us) ≡ in_nodes (place_in n k) ms ++ (in_regions n (suc k) ss ++ vs) =
      sym (append_assoc (in_nodes (place_in n k) ns) (in_regions n (suc k) rs) us) ∙ e ∙ append_assoc (in_nodes (place_in n k) ms) (in_regions n (suc k) ss) vs in
      let t = nodes_once ns ms (place_in n k) (in_regions n (suc k) rs ++ us) (in_regions n (suc k) ss ++ vs) (region_fits n k args ns results rs us f) (region_fits n k args' ms results' ss vs g)
      e' in
      let s = regions_once rs ss n (suc k) us vs (later_regions n args ns results rs us f) (later_regions n args' ms results' ss vs g) (same_tail _ _ _ _ h) t.1 in (
        λ i. region_then (region (ap (λ (v : FlatRegion). v.args) q i) (t.0 i) (ap (λ (v : FlatRegion). v.results) q i)) (s.0 i),
        s.1,
      )

-- no number stands twice, by the test of well-formed lambdas
none_of : (n : ℕ) (ns : List ℕ) → not (some_of (λ m. eqb n m) ns) ≡ true → is_in ns (Some n) ≡ false
none_of n [] h = refl
none_of n (m ∷ ns) h = by_test (eqb n m) h (none_of n ns)
  where
    by_test : (t : Bool) → not (t || some_of (λ m. eqb n m) ns) ≡ true → (not (some_of (λ m. eqb n m) ns) ≡ true → is_in ns (Some n) ≡ false) → (t || is_in ns (Some n)) ≡ false
    by_test true e go = absurd (true≢false (sym e))
    by_test false e go = go e

both : (a b : Bool) → (a && b) ≡ true → (a ≡ true) × (b ≡ true)
both true b h = (refl, h)
both false b h = absurd (true≢false (sym h))

once : (ns : List ℕ) → distinct ns ≡ true → Once ns
once [] h = tt
once (n ∷ ns) h = let p = both _ _ h in (none_of n ns p.0, once ns p.1)

append_nil : {A : Type 0} (xs : List A) → xs ++ [] ≡ xs
append_nil [] = refl
append_nil (x ∷ xs) = ap (λ ys. x ∷ ys) (append_nil xs)

body_once : (b c : RegionTree) → Once (region_ids b) → Once (region_ids c)
    → region_flat b ≡ region_flat c → in_region body_place b ≡ in_region body_place c → b ≡ c
body_once (region args ns results) (region args' ms results') f g h e =
    let t = nodes_once ns ms body_place [] [] (record { once = f; apart = refl; outside = tt }) (record { once = g; apart = refl; outside = tt })
    (append_nil (in_nodes body_place ns) ∙ e ∙ sym (append_nil (in_nodes body_place ms))) in
    λ i. region (ap (λ (v : FlatRegion). v.args) h i) (t.0 i) (ap (λ (v : FlatRegion). v.results) h i)

pub one_lambda : FlatIsOfOneLambda
one_lambda a l m f g h k =
    let e = sym h ∙ k in
    let b = body_once l.body m.body (once (region_ids l.body) f) (once (region_ids m.body) g) (ap (λ (v : Flat). v.body) e) (ap (λ (v : Flat). v.nodes) e) in
    λ i. record {
      number = ap (λ (v : Flat). v.number) e i;
      params = ap (λ (v : Flat). v.params) e i;
      objects = ap (λ (v : Flat). v.objects) e i;
      body = b i;
      next = ap (λ (v : Flat). v.next) e i;
    }
