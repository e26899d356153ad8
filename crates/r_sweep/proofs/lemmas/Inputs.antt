-- Uses in a region, changed: the inputs of its own nodes alone.
use Rattle.std.proofs.Common.{◌≡◌, ◌+◌, ◌⊎◌, inl, inr, ℕ, zero, suc, ◌==◌, Bool, true, false, Option, None, Some, List, [], ◌∷◌, ◌++◌, map, refl, sym, ap, ◌∙◌, arith}
use Rattle.std.specs.Prelude.{◌&&◌, if◌then◌else◌}
use Rattle.std.proofs.lemmas.Bool.{cases_Bool}
use Rattle.g_graph.specs.declared.op.Origin.{Origin}
use Rattle.g_graph.specs.Plain.{RegionTree, region, node, NodeTrees, no_nodes, node_then, RegionTrees, no_regions, region_then}
use Rattle.g_graph.specs.Ids.{nodes_ids, regions_ids}
use Rattle.g_graph.specs.Signatures.{outputs_of}
use Rattle.g_graph.specs.WellFormed.{kinds_of}
use Rattle.g_graph.specs.Replace.{nodes_redirected}
use Rattle.g_graph.proofs.lemmas.Indexes.{same_number_true}
use Rattle.g_graph.proofs.lemmas.Unique.{times}
use Rattle.g_arena_def.specs.declared.place.Place.{Place}
use Rattle.g_arena_def.specs.Flat.{FlatNode, place_in, regions_flat, in_nodes, in_regions, same_node, same_place}
use Rattle.g_arena_def.specs.Edits.{inputs_at}
use Rattle.r_sweep.proofs.lemmas.Outside.{none_both, AreOutside, AreApart, IsNone, none_of_both, none_of_rest, regions_apart, later_apart, earlier_apart}

pub map_both : {X Y : Type 0} (f : X → Y) (xs ys : List X) → map f (xs ++ ys) ≡ map f xs ++ map f ys
map_both f [] ys = refl
map_both f (x ∷ xs) ys = ap (λ zs. f x ∷ zs) (map_both f xs ys)

pub map_map : {X Y Z : Type 0} (g : Y → Z) (f : X → Y) (xs : List X) → map g (map f xs) ≡ map (λ x. g (f x)) xs
map_map g f [] = refl
map_map g f (x ∷ xs) = ap (λ zs. g (f x) ∷ zs) (map_map g f xs)

pub map_id : {X : Type 0} (xs : List X) → map (λ x. x) xs ≡ xs
map_id [] = refl
map_id (x ∷ xs) = ap (λ zs. x ∷ zs) (map_id xs)

-- ---- a place

pub same_place_self : (p : Place) → same_place p p ≡ true
same_place_self p = by p.node (same_number_true p.region)
  where
    by : (o : Option ℕ) → (p.region == p.region) ≡ true → (same_node o o && (p.region == p.region)) ≡ true
    by None e = e
    by (Some n) e = λ i. same_number_true n i && e i

-- ---- inputs

pub input_here : (p : Place) (f : Origin → Origin) (x : FlatNode) → same_place x.home p ≡ true → inputs_at p f x ≡ record x { inputs = map f x.inputs }
input_here p f x e = ap (λ t. if t then record x { inputs = map f x.inputs } else x) e

pub input_apart : (p : Place) (f : Origin → Origin) (x : FlatNode) → same_place x.home p ≡ false → inputs_at p f x ≡ x
input_apart p f x e = ap (λ t. if t then record x { inputs = map f x.inputs } else x) e

pub inputs_apart : (p : Place) (f : Origin → Origin) (xs : List FlatNode) → AreApart p xs → map (inputs_at p f) xs ≡ xs
inputs_apart p f [] h = refl
inputs_apart p f (x ∷ xs) h = λ i. input_apart p f x h.0 i ∷ inputs_apart p f xs h.1 i

pub input_id : (p : Place) (f : Origin → Origin) (x : FlatNode) → (inputs_at p f x).id ≡ x.id
input_id p f x = by (same_place x.home p)
  where
    by : (t : Bool) → (if t then record x { inputs = map f x.inputs } else x).id ≡ x.id
    by true = refl
    by false = refl

input_home : (p : Place) (f : Origin → Origin) (x : FlatNode) → (inputs_at p f x).home ≡ x.home
input_home p f x = by (same_place x.home p)
  where
    by : (t : Bool) → (if t then record x { inputs = map f x.inputs } else x).home ≡ x.home
    by true = refl
    by false = refl

pub inputs_outside : (m : ℕ) (p : Place) (f : Origin → Origin) (xs : List FlatNode) → AreOutside m xs → AreOutside m (map (inputs_at p f) xs)
inputs_outside m p f [] h = tt
inputs_outside m p f (x ∷ xs) h =
    ((ap (λ k. k == m) (input_id p f x) ∙ h.0.0, ap (λ (q : Place). same_node q.node (Some m)) (input_home p f x) ∙ h.0.1), inputs_outside m p f xs h.1)

pub input_twice : (p : Place) (g f : Origin → Origin) (x : FlatNode) → inputs_at p g (inputs_at p f x) ≡ inputs_at p (λ o. g (f o)) x
input_twice p g f x = by (cases_Bool (same_place x.home p))
  where
    by : (same_place x.home p ≡ true) ⊎ (same_place x.home p ≡ false) → inputs_at p g (inputs_at p f x) ≡ inputs_at p (λ o. g (f o)) x
    by (inl e) =
        ap (inputs_at p g) (input_here p f x e) ∙ input_here p g (record x { inputs = map f x.inputs }) e ∙ (λ i. record x { inputs = map_map g f x.inputs i })
        ∙ sym (input_here p (λ o. g (f o)) x e)
    by (inr e) = ap (inputs_at p g) (input_apart p f x e) ∙ input_apart p g x e ∙ sym (input_apart p (λ o. g (f o)) x e)

pub inputs_twice : (p : Place) (g f : Origin → Origin) (xs : List FlatNode) → map (inputs_at p g) (map (inputs_at p f) xs) ≡ map (inputs_at p (λ o. g (f o))) xs
inputs_twice p g f [] = refl
inputs_twice p g f (x ∷ xs) = λ i. input_twice p g f x i ∷ inputs_twice p g f xs i

pub inputs_id : (p : Place) (xs : List FlatNode) → map (inputs_at p (λ o. o)) xs ≡ xs
inputs_id p [] = refl
inputs_id p (x ∷ xs) = λ i. by (cases_Bool (same_place x.home p)) i ∷ inputs_id p xs i
  where
    by : (same_place x.home p ≡ true) ⊎ (same_place x.home p ≡ false) → inputs_at p (λ o. o) x ≡ x
    by (inl e) = input_here p (λ o. o) x e ∙ (λ i. record x { inputs = map_id x.inputs i })
    by (inr e) = input_apart p (λ o. o) x e

-- those of the nodes of a region
pub inputs_nodes : (p : Place) (f : Origin → Origin) (ns : NodeTrees) → IsNone p.node (nodes_ids ns) → map (inputs_at p f) (in_nodes p ns) ≡ in_nodes p (nodes_redirected f ns)
inputs_nodes p f no_nodes h = refl
inputs_nodes p f (node_then (node id op inputs rs) xs) h =
    let both = none_of_both p.node (id ∷ regions_ids rs) (nodes_ids xs) h in
    let own = none_of_rest p.node id (regions_ids rs) both.0 in
    let x : FlatNode = record { id = id; op = op; inputs = inputs; outputs = kinds_of (outputs_of op rs); regions = regions_flat rs; home = p } in
    map_both (inputs_at p f) (x ∷ in_regions id 0 rs) (in_nodes p xs)
    ∙ (λ i. (input_here p f x (same_place_self p) i ∷ inputs_apart p f (in_regions id 0 rs) (regions_apart p id 0 rs own.0 own.1) i) ++ inputs_nodes p f xs both.1 i)

-- ---- a region of a node

abbrev pub regions_with : (index : ℕ) → (RegionTree → RegionTree) → RegionTrees → RegionTrees
regions_with k f no_regions = no_regions
regions_with zero f (region_then r rs) = region_then (f r) rs
regions_with (suc k) f (region_then r rs) = region_then r (regions_with k f rs)

abbrev pub nodes_with : (Origin → Origin) → RegionTree → RegionTree
nodes_with f (region args ns results) = region args (nodes_redirected f ns) results

pub inputs_region : (n k j : ℕ) (f : Origin → Origin) (rs : RegionTrees) → times n (regions_ids rs) ≡ 0 →
    map (inputs_at (place_in n (j + k)) f) (in_regions n j rs) ≡ in_regions n j (regions_with k (nodes_with f) rs)
inputs_region n k j f no_regions e = refl
inputs_region n zero j f (region_then (region args ns results) rs) e =
    let both = none_both n (nodes_ids ns) (regions_ids rs) e in
    ap (λ m. map (inputs_at (place_in n m) f) (in_nodes (place_in n j) ns ++ in_regions n (suc j) rs)) here
    ∙ map_both (inputs_at (place_in n j) f) (in_nodes (place_in n j) ns) (in_regions n (suc j) rs)
    ∙ (λ i. inputs_nodes (place_in n j) f ns both.0 i ++ inputs_apart (place_in n j) f (in_regions n (suc j) rs) (later_apart n j (suc j) rs (omega arith) both.1) i)
  where
    here : j + 0 ≡ j
    here = omega arith
inputs_region n (suc k) j f (region_then (region args ns results) rs) e =
    let both = none_both n (nodes_ids ns) (regions_ids rs) e in
    let p = place_in n (j + suc k) in
    map_both (inputs_at p f) (in_nodes (place_in n j) ns) (in_regions n (suc j) rs)
    ∙ (λ i. inputs_apart p f (in_nodes (place_in n j) ns) (earlier_apart n (j + suc k) j args ns results (omega arith) both.0) i
    ++ (ap (λ m. map (inputs_at (place_in n m) f) (in_regions n (suc j) rs)) later ∙ inputs_region n k (suc j) f rs both.1) i)
  where
    later : j + suc k ≡ suc j + k
    later = omega arith
