-- The rows of a region are made to that region, where no number stands twice: which nodes a region takes is seen by their
-- places.
use Rattle.std.proofs.Common.{◌≡◌, ℕ, suc, ◌+◌, ◌<◌, true, false, ◌&&◌, ◌||◌, cond, eqb, Option, Some, None, List, [], ◌∷◌, ◌++◌, length, map, refl, ap, sym, ◌∙◌, subst, append_assoc, arith}
use Rattle.std.specs.List.{list_any}
use Rattle.std.proofs.lemmas.Bool.{eq-eqb, ne_eqb, or_parts}
use Rattle.std.proofs.lemmas.List.Folds.{list_any-append}
use Rattle.cell_lists.specs.Lists.{AreDistinct}
use Rattle.g_graph.specs.declared.op.Op.{Op}
use Rattle.g_graph.specs.declared.op.Op.TheVariants.{Const, Undef, Local, Delta, Bin, Un, Load, Store, Clear, PtrEq, Apply, Put, Exit, Get, Gamma, Theta}
use Rattle.g_graph.specs.Plain.{RegionTree, region, NodeTree, node, NodeTrees, no_nodes, node_then, RegionTrees, no_regions, region_then, nodes_of, regions_of, nodes_in}
use Rattle.g_graph.specs.Signatures.{outputs_of, kind_of, kind_after}
use Rattle.g_graph.specs.Ids.{node_ids, nodes_ids, regions_ids}
use Rattle.g_graph.specs.Count.{region_values, node_values, nodes_values, regions_values}
use Rattle.g_arena_def.specs.declared.place.Place.{Place}
use Rattle.g_arena_def.specs.Flat.{FlatRegion, FlatNode, body_place, place_in, regions_flat, in_nodes, in_node, in_regions, region_flat, same_node, same_place, is_in}
use Rattle.g_arena_def.specs.Size.{region_inputs, node_inputs, nodes_inputs, regions_inputs}
use Rattle.g_arena_nodes.specs.Made.{HasNumbersOnce, IsListOf, taken, left, region_made, regions_made, regions_left, node_made, node_left, all_made, part_size, parts_size, outputs_count, rows_size}

is_in-append : (ns ms : List ℕ) (o : Option ℕ) → is_in (ns ++ ms) o ≡ is_in ns o || is_in ms o
is_in-append ns ms None = refl
is_in-append ns ms (Some n) = list_any-append (λ m. eqb n m) ns ms

in_parts : (ns ms : List ℕ) (o : Option ℕ) → is_in (ns ++ ms) o ≡ false → (is_in ns o ≡ false) × (is_in ms o ≡ false)
in_parts ns ms o h = or_parts _ _ (sym (is_in-append ns ms o) ∙ h)

once_parts : (ns ms : List ℕ) → AreDistinct (ns ++ ms) → AreDistinct ns × AreDistinct ms
once_parts [] ms d = (tt, d)
once_parts (n ∷ ns) ms d = let p = once_parts ns ms d.1 in (((in_parts ns ms (Some n) d.0).0, p.0), p.1)

in_cons_parts : (n : ℕ) (ns : List ℕ) (o : Option ℕ) → is_in (n ∷ ns) o ≡ false → is_in ns o ≡ false
in_cons_parts n ns None h = refl
in_cons_parts n ns (Some m) h = (or_parts (eqb m n) (list_any (λ k. eqb m k) ns) h).1

-- a place is itself, and is not one of another node or of another index
same_place-self : (p : Place) → same_place p p ≡ true
same_place-self p = by_node p.node p.region
  where
    by_node : (o : Option ℕ) (k : ℕ) → (same_node o o && eqb k k) ≡ true
    by_node None k = eq-eqb k k refl
    by_node (Some n) k = ap (λ b. b && eqb k k) (eq-eqb n n refl) ∙ eq-eqb k k refl

other_node : (p : Place) (n k : ℕ) (ns : List ℕ) → is_in (n ∷ ns) p.node ≡ false → same_place p (place_in n k) ≡ false
other_node p n k ns h = by_node p.node p.region h
  where
    by_node : (o : Option ℕ) (j : ℕ) → is_in (n ∷ ns) o ≡ false → (same_node o (Some n) && eqb j k) ≡ false
    by_node None j e = refl
    by_node (Some m) j e = ap (λ b. b && eqb j k) (or_parts (eqb m n) (list_any (λ k. eqb m k) ns) e).0

other_index : (n j k : ℕ) → k < j → same_place (place_in n j) (place_in n k) ≡ false
other_index n j k lt = ap (λ b. b && eqb j k) (eq-eqb n n refl) ∙ ne_eqb j k (λ e. omega (arith, e, lt))

-- ---- what stands

-- each of these nodes is in no region of nodes of these numbers
abbrev AreOutside : List ℕ → List (Place × NodeTree) → Type 0
AreOutside ns [] = Unit {0}
AreOutside ns (m ∷ ms) = (is_in ns m.0.node ≡ false) × AreOutside ns ms

outside_parts : (ns ks : List ℕ) (ms : List (Place × NodeTree)) → AreOutside (ns ++ ks) ms → AreOutside ns ms × AreOutside ks ms
outside_parts ns ks [] h = (tt, tt)
outside_parts ns ks (m ∷ ms) h =
    let p = in_parts ns ks m.0.node h.0 in
    let r = outside_parts ns ks ms h.1 in
    ((p.0, r.0), (p.1, r.1))

outside_tail : (n : ℕ) (ns : List ℕ) (ms : List (Place × NodeTree)) → AreOutside (n ∷ ns) ms → AreOutside ns ms
outside_tail n ns [] h = tt
outside_tail n ns (m ∷ ms) h = (in_cons_parts n ns m.0.node h.0, outside_tail n ns ms h.1)

abbrev with_place : Place → NodeTrees → List (Place × NodeTree)
with_place p no_nodes = []
with_place p (node_then x xs) = (p, x) ∷ with_place p xs

-- the nodes of the regions of a node from an index on
abbrev with_places : (id index : ℕ) → RegionTrees → List (Place × NodeTree)
with_places n k no_regions = []
with_places n k (region_then r rs) = with_place (place_in n k) (nodes_in r) ++ with_places n (suc k) rs

outside_place : (ns : List ℕ) (p : Place) (xs : NodeTrees) (ms : List (Place × NodeTree)) → is_in ns p.node ≡ false → AreOutside ns ms → AreOutside ns (with_place p xs ++ ms)
outside_place ns p no_nodes ms h o = o
outside_place ns p (node_then x xs) ms h o = (h, outside_place ns p xs ms h o)

outside_places : (ns : List ℕ) (n k : ℕ) (rs : RegionTrees) (ms : List (Place × NodeTree)) → is_in ns (Some n) ≡ false → AreOutside ns ms → AreOutside ns (with_places n k rs ++ ms)
outside_places ns n k no_regions ms h o = o
outside_places ns n k (region_then r rs) ms h o =
    let P : List (Place × NodeTree) → Type 0 = λ l. AreOutside ns l in
    subst P (sym (append_assoc (with_place (place_in n k) (nodes_in r)) (with_places n (suc k) rs) ms))
    (outside_place ns (place_in n k) (nodes_in r) (with_places n (suc k) rs ++ ms) h (outside_places ns n (suc k) rs ms h o))

-- ---- what a region takes

abbrev IsAway : Place → List (Place × NodeTree) → Type 0
IsAway p [] = Unit {0}
IsAway p (m ∷ ms) = same_place m.0 p ≡ false

away : (n k j : ℕ) (ns : List ℕ) (rs : RegionTrees) (ms : List (Place × NodeTree)) → k < j → AreOutside (n ∷ ns) ms → IsAway (place_in n k) (with_places n j rs ++ ms)
away n k j ns no_regions [] lt o = tt
away n k j ns no_regions (m ∷ ms) lt o = other_node m.0 n k ns o.0
away n k j ns (region_then (region args no_nodes results) rs) ms lt o = away n k (suc j) ns rs ms (omega (arith, lt)) o
away n k j ns (region_then (region args (node_then x xs) results) rs) ms lt o = other_index n j k lt

takes : (p : Place) (xs : NodeTrees) (ms : List (Place × NodeTree)) → IsAway p ms → (nodes_of (taken p (with_place p xs ++ ms)) ≡ xs) × (left p (with_place p xs ++ ms) ≡ ms)
takes p no_nodes [] h = (refl, refl)
takes p no_nodes (m ∷ ms) h = (
  ap (λ b. nodes_of (cond b (m.1 ∷ taken p ms) [])) h,
  ap (λ b. cond b (left p ms) (m ∷ ms)) h,
)
takes p (node_then x xs) ms h =
    let r = takes p xs ms h in
    let s = same_place-self p in (
      ap (λ b. nodes_of (cond b (x ∷ taken p (with_place p xs ++ ms)) [])) s ∙ ap (λ ys. node_then x ys) r.0,
      ap (λ b. cond b (left p (with_place p xs ++ ms)) ((p, x) ∷ (with_place p xs ++ ms))) s ∙ r.1,
    )

region_takes : (p : Place) (r : RegionTree) (ms : List (Place × NodeTree)) → IsAway p ms → region_made (region_flat r) p (with_place p (nodes_in r) ++ ms) ≡ r
region_takes p (region args nodes results) ms h = ap (λ ns. region args ns results) (takes p nodes ms h).0

regions_take : (n k : ℕ) (ns : List ℕ) (rs : RegionTrees) (ms : List (Place × NodeTree)) → AreOutside (n ∷ ns) ms
    → (regions_of (regions_made n k (regions_flat rs) (with_places n k rs ++ ms)) ≡ rs) × (regions_left n k (regions_flat rs) (with_places n k rs ++ ms) ≡ ms)
regions_take n k ns no_regions ms o = (refl, refl)
regions_take n k ns (region_then r rs) ms o =
    let p : Place = place_in n k in
    let later : List (Place × NodeTree) = with_places n (suc k) rs ++ ms in
    let a : IsAway (place_in n k) (with_places n (suc k) rs ++ ms) = away n k (suc k) ns rs ms (omega arith) o in
    let t = takes (place_in n k) (nodes_in r) (with_places n (suc k) rs ++ ms) a in
    let h = region_takes (place_in n k) r (with_places n (suc k) rs ++ ms) a in
    let g = regions_take n (suc k) ns rs ms o in
    let whole = append_assoc (with_place (place_in n k) (nodes_in r)) (with_places n (suc k) rs) ms in (
      ap (λ l. region_then (region_made (region_flat r) (place_in n k) l) (regions_of (regions_made n (suc k) (regions_flat rs) (left (place_in n k) l)))) whole
          ∙ (λ i. region_then (h i) (regions_of (regions_made n (suc k) (regions_flat rs) (t.1 i))))
          ∙ ap (λ ss. region_then r ss) g.0,
      ap (λ l. regions_left n (suc k) (regions_flat rs) (left (place_in n k) l)) whole ∙ ap (regions_left n (suc k) (regions_flat rs)) t.1 ∙ g.1,
    )

-- ---- what rows make

made_append : (xs ys : List FlatNode) (ms : List (Place × NodeTree)) → all_made (xs ++ ys) ms ≡ all_made xs (all_made ys ms)
made_append [] ys ms = refl
made_append (x ∷ xs) ys ms = ap (λ l. (x.home, node_made x l) ∷ node_left x l) (made_append xs ys ms)

mutual
  nodes_make : (p : Place) (xs : NodeTrees) (ms : List (Place × NodeTree)) → AreDistinct (nodes_ids xs) → is_in (nodes_ids xs) p.node ≡ false → AreOutside (nodes_ids xs) ms
      → all_made (in_nodes p xs) ms ≡ with_place p xs ++ ms
  nodes_make p no_nodes ms d h o = refl
  nodes_make p (node_then x xs) ms d h o =
      let e = once_parts (node_ids x) (nodes_ids xs) d in
      let g = in_parts (node_ids x) (nodes_ids xs) p.node h in
      let q = outside_parts (node_ids x) (nodes_ids xs) ms o in
      made_append (in_node p x) (in_nodes p xs) ms
      ∙ ap (all_made (in_node p x)) (nodes_make p xs ms e.1 g.1 q.1)
      ∙ node_makes p x (with_place p xs ++ ms) e.0 (outside_place (node_ids x) p xs ms g.0 q.0)

  node_makes : (p : Place) (x : NodeTree) (ms : List (Place × NodeTree)) → AreDistinct (node_ids x) → AreOutside (node_ids x) ms → all_made (in_node p x) ms ≡ (p, x) ∷ ms
  node_makes p (node id op inputs rs) ms d o =
      let made = regions_make id 0 rs ms d.1 d.0 (outside_tail id (regions_ids rs) ms o) in
      let t = regions_take id 0 (regions_ids rs) rs ms o in
      ap (λ l. (p, node id op inputs (regions_of (regions_made id 0 (regions_flat rs) l))) ∷ regions_left id 0 (regions_flat rs) l) made
      ∙ (λ i. (p, node id op inputs (t.0 i)) ∷ t.1 i)

  regions_make : (n k : ℕ) (rs : RegionTrees) (ms : List (Place × NodeTree)) → AreDistinct (regions_ids rs) → is_in (regions_ids rs) (Some n) ≡ false → AreOutside (regions_ids rs) ms
      → all_made (in_regions n k rs) ms ≡ with_places n k rs ++ ms
  regions_make n k no_regions ms d h o = refl
  regions_make n k (region_then (region args nodes results) rs) ms d h o =
      let e = once_parts (nodes_ids nodes) (regions_ids rs) d in
      let g = in_parts (nodes_ids nodes) (regions_ids rs) (Some n) h in
      let q = outside_parts (nodes_ids nodes) (regions_ids rs) ms o in
      made_append (in_nodes (place_in n k) nodes) (in_regions n (suc k) rs) ms
      ∙ ap (all_made (in_nodes (place_in n k) nodes)) (regions_make n (suc k) rs ms e.1 g.1 q.1)
      ∙ nodes_make (place_in n k) nodes (with_places n (suc k) rs ++ ms) e.0 g.0 (outside_places (nodes_ids nodes) n (suc k) rs ms g.0 q.0)
      ∙ sym (append_assoc (with_place (place_in n k) nodes) (with_places n (suc k) rs) ms)

-- the numbers of the rows are those of the region
abbrev row_id : FlatNode → ℕ
row_id x = x.id

map_append : (xs ys : List FlatNode) → map row_id (xs ++ ys) ≡ map row_id xs ++ map row_id ys
map_append [] ys = refl
map_append (x ∷ xs) ys = ap (λ ns. x.id ∷ ns) (map_append xs ys)

mutual
  nodes_numbers : (p : Place) (xs : NodeTrees) → map row_id (in_nodes p xs) ≡ nodes_ids xs
  nodes_numbers p no_nodes = refl
  nodes_numbers p (node_then x xs) = let a = node_numbers p x in let b = nodes_numbers p xs in map_append (in_node p x) (in_nodes p xs) ∙ (λ i. a i ++ b i)

  node_numbers : (p : Place) (x : NodeTree) → map row_id (in_node p x) ≡ node_ids x
  node_numbers p (node id op inputs rs) = ap (λ ns. id ∷ ns) (regions_numbers id 0 rs)

  regions_numbers : (n k : ℕ) (rs : RegionTrees) → map row_id (in_regions n k rs) ≡ regions_ids rs
  regions_numbers n k no_regions = refl
  regions_numbers n k (region_then (region args nodes results) rs) =
      let a = nodes_numbers (place_in n k) nodes in
      let b = regions_numbers n (suc k) rs in
      map_append (in_nodes (place_in n k) nodes) (in_regions n (suc k) rs) ∙ (λ i. a i ++ b i)

pub body_made : (body : FlatRegion) (xs : List FlatNode) (r : RegionTree) → HasNumbersOnce xs → IsListOf body xs r → region_made body body_place (all_made xs []) ≡ r
body_made body xs (region args nodes results) d l =
    let P : List ℕ → Type 0 = λ ns. AreDistinct ns in
    let once : AreDistinct (nodes_ids nodes) = subst P (ap (map row_id) l.nodes ∙ nodes_numbers body_place nodes) d in
    let made : all_made xs [] ≡ with_place body_place nodes ++ [] = ap (λ ys. all_made ys []) l.nodes ∙ nodes_make body_place nodes [] once refl tt in
    (λ i. region_made (l.body i) body_place (made i)) ∙ region_takes body_place (region args nodes results) [] tt

-- ---- how many contents there are

outputs_counted : (op : Op) (rs : RegionTrees) → outputs_count op (regions_flat rs) ≡ length (outputs_of op rs)
outputs_counted Gamma no_regions = refl
outputs_counted Gamma (region_then (region args nodes results) rs) = sym (length_map (kind_of args (λ n p. kind_after nodes n p None)) results)
  where
    length_map : {A B : Type 0} (f : A → B) (xs : List A) → length (map f xs) ≡ length xs
    length_map f [] = refl
    length_map f (x ∷ xs) = ap suc (length_map f xs)
outputs_counted Theta no_regions = refl
outputs_counted Theta (region_then (region args nodes results) rs) = sym (length_some args)
  where
    length_some : {A : Type 0} (xs : List A) → length (map Some xs) ≡ length xs
    length_some [] = refl
    length_some (x ∷ xs) = ap suc (length_some xs)
outputs_counted (Const w) rs = refl
outputs_counted Undef rs = refl
outputs_counted (Local k) rs = refl
outputs_counted (Delta k) rs = refl
outputs_counted (Bin a) rs = refl
outputs_counted (Un a) rs = refl
outputs_counted (Load w) rs = refl
outputs_counted (Store w) rs = refl
outputs_counted (Clear k) rs = refl
outputs_counted PtrEq rs = refl
outputs_counted (Apply f) rs = refl
outputs_counted Put rs = refl
outputs_counted Exit rs = refl
outputs_counted Get rs = refl

size_append : (xs ys : List FlatNode) → rows_size (xs ++ ys) ≡ rows_size xs + rows_size ys
size_append [] ys = omega arith
size_append (x ∷ xs) ys = omega (arith, size_append xs ys)

mutual
  nodes_counted : (p : Place) (xs : NodeTrees) → rows_size (in_nodes p xs) ≡ nodes_values xs + nodes_inputs xs
  nodes_counted p no_nodes = omega arith
  nodes_counted p (node_then x xs) = omega (arith, size_append (in_node p x) (in_nodes p xs), node_counted p x, nodes_counted p xs)

  node_counted : (p : Place) (x : NodeTree) → rows_size (in_node p x) ≡ node_values x + node_inputs x
  node_counted p (node id op inputs rs) = omega (arith, outputs_counted op rs, regions_counted id 0 rs)

  regions_counted : (n k : ℕ) (rs : RegionTrees) → parts_size (regions_flat rs) + rows_size (in_regions n k rs) ≡ regions_values rs + regions_inputs rs
  regions_counted n k no_regions = omega arith
  regions_counted n k (region_then (region args nodes results) rs) =
      omega (arith, size_append (in_nodes (place_in n k) nodes) (in_regions n (suc k) rs), nodes_counted (place_in n k) nodes, regions_counted n (suc k) rs)

pub body_counted : (body : FlatRegion) (xs : List FlatNode) (r : RegionTree) → IsListOf body xs r → part_size body + rows_size xs ≡ region_values r + region_inputs r
body_counted body xs (region args nodes results) l =
    let size : part_size body ≡ 1 + length args + length results = ap part_size l.body in
    let rows : rows_size xs ≡ rows_size (in_nodes body_place nodes) = ap rows_size l.nodes in
    omega (arith, size, rows, nodes_counted body_place nodes)
