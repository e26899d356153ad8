-- A node that is found, after a change at it or at one of its places.
use Rattle.std.proofs.Common.{◌≡◌, ◌==◌, ℕ, zero, suc, Bool, true, false, Option, None, Some, option_map, List, [], ◌∷◌, map, length, refl, sym, ap, ◌∙◌}
use Rattle.std.specs.Prelude.{if◌then◌else◌, slice_get}
use Rattle.std.specs.List.{remove}
use Rattle.g_graph.specs.declared.op.Origin.{Origin}
use Rattle.g_graph.proofs.lemmas.Unique.{same_number}
use Rattle.g_arena_def.specs.declared.place.Place.{Place}
use Rattle.g_arena_def.specs.Flat.{FlatRegion, FlatNode, Flat, place_in, same_node}
use Rattle.g_arena_def.specs.Reads.{found}
use Rattle.g_arena_def.specs.Edits.{node_with, at_with, changed_in, region_with, inputs_at, uses_with, output_less, outputs_follow, output_removed, result_removed}
use Rattle.r_sweep.proofs.lemmas.Around.{region_set}
use Rattle.r_sweep.proofs.lemmas.Inputs.{input_id, input_here, same_place_self}

-- ---- the first node of a number

pub found_with : (n : ℕ) (f : FlatNode → FlatNode) (xs : List FlatNode) → ((y : FlatNode) → (f y).id ≡ y.id) → found n (node_with n f xs) ≡ option_map f (found n xs)
found_with n f [] h = refl
found_with n f (x ∷ xs) h = by (x.id == n) refl (found_with n f xs h)
  where
    by : (t : Bool) → (x.id == n) ≡ t → found n (node_with n f xs) ≡ option_map f (found n xs) → found n (if t then f x ∷ xs else x ∷ node_with n f xs) ≡ option_map f (if t then Some x else found n xs)
    by true e r = ap (λ t. if t then Some (f x) else found n xs) (ap (λ i. i == n) (h x) ∙ e)
    by false e r = ap (λ t. if t then Some x else found n (node_with n f xs)) e ∙ r

pub found_apart : (n m : ℕ) (f : FlatNode → FlatNode) (xs : List FlatNode) → ((y : FlatNode) → (f y).id ≡ y.id) → (m == n) ≡ false → found n (node_with m f xs) ≡ found n xs
found_apart n m f [] h e = refl
found_apart n m f (x ∷ xs) h e = by (x.id == m) refl (found_apart n m f xs h e)
  where
    by : (t : Bool) → (x.id == m) ≡ t → found n (node_with m f xs) ≡ found n xs → found n (if t then f x ∷ xs else x ∷ node_with m f xs) ≡ (if x.id == n then Some x else found n xs)
    by true q r =
        let other : (x.id == n) ≡ false = ap (λ i. i == n) (same_number x.id m q) ∙ e in
        ap (λ t. if t then Some (f x) else found n xs) (ap (λ i. i == n) (h x) ∙ other) ∙ ap (λ t. if t then Some x else found n xs) (sym other)
    by false q r = ap (λ o. if x.id == n then Some x else o) r

pub found_inputs : (n : ℕ) (p : Place) (g : Origin → Origin) (xs : List FlatNode) → found n (map (inputs_at p g) xs) ≡ option_map (inputs_at p g) (found n xs)
found_inputs n p g [] = refl
found_inputs n p g (x ∷ xs) =
    ap (λ i. if i == n then Some (inputs_at p g x) else found n (map (inputs_at p g) xs)) (input_id p g x) ∙ by (x.id == n) (found_inputs n p g xs)
  where
    by : (t : Bool) → found n (map (inputs_at p g) xs) ≡ option_map (inputs_at p g) (found n xs) →
        (if t then Some (inputs_at p g x) else found n (map (inputs_at p g) xs)) ≡ option_map (inputs_at p g) (if t then Some x else found n xs)
    by true r = refl
    by false r = r

-- a change of a region of another node, or of the body
pub found_region : (n : ℕ) (p : Place) (h : FlatRegion → FlatRegion) (a : Flat) → same_node p.node (Some n) ≡ false → found n (region_with p h a).nodes ≡ found n a.nodes
found_region n p h a e = by p.node e
  where
    by : (o : Option ℕ) → same_node o (Some n) ≡ false → found n (changed_in o p.region h a).nodes ≡ found n a.nodes
    by None d = refl
    by (Some m) d = found_apart n m (region_set p.region h) a.nodes (λ y. refl) d

pub found_uses : (n : ℕ) (p : Place) (g : Origin → Origin) (a : Flat) → same_node p.node (Some n) ≡ false → found n (uses_with p g a).nodes ≡ option_map (inputs_at p g) (found n a.nodes)
found_uses n p g a e =
    found_region n p (λ (r : FlatRegion). record r { results = map g r.results }) (record a { nodes = map (inputs_at p g) a.nodes }) e ∙ found_inputs n p g a.nodes

-- ---- a node and its changes

-- a node that is found, in no region of its own
pub record NodeAt (n : ℕ) (x : FlatNode) (a : Flat) : Type 0 where
  pub there : found n a.nodes ≡ Some x
  pub number : x.id ≡ n
  pub apart : same_node x.home.node (Some n) ≡ false

abbrev pub output_gone : (n k : ℕ) → FlatNode → FlatNode
output_gone n k x = record x { outputs = remove x.outputs k; inputs = map (output_less n k (length x.outputs)) x.inputs }

abbrev pub result_less : (j k : ℕ) → FlatNode → FlatNode
result_less j k x = region_set j (λ (r : FlatRegion). record r { results = remove r.results k }) x

pub output_at : (n k : ℕ) (x : FlatNode) (a : Flat) → NodeAt n x a → NodeAt n (output_gone n k x) (output_removed n k a)
output_at n k x a h = record {
  there = ap (λ o. found n (outputs_follow o k a).nodes) h.there
      ∙ (λ i. found n (uses_with x.home (output_less (h.number i) k (length x.outputs)) (record a { nodes = node_with (h.number i) (λ (y : FlatNode). record y { outputs = remove y.outputs k }) a.nodes })).nodes)
      ∙ found_uses n x.home (output_less n k (length x.outputs)) (record a { nodes = node_with n (λ (y : FlatNode). record y { outputs = remove y.outputs k }) a.nodes }) h.apart
      ∙ ap (option_map (inputs_at x.home (output_less n k (length x.outputs))))
      (found_with n (λ (y : FlatNode). record y { outputs = remove y.outputs k }) a.nodes (λ y. refl) ∙ ap (option_map (λ (y : FlatNode). record y { outputs = remove y.outputs k })) h.there)
      ∙ ap Some (input_here x.home (output_less n k (length x.outputs)) (record x { outputs = remove x.outputs k }) (same_place_self x.home));
  number = h.number;
  apart = h.apart;
}

pub result_gone_at : (n j k : ℕ) (x : FlatNode) (a : Flat) → NodeAt n x a → NodeAt n (result_less j k x) (result_removed (place_in n j) k a)
result_gone_at n j k x a h = record {
  there = found_with n (region_set j (λ (r : FlatRegion). record r { results = remove r.results k })) a.nodes (λ y. refl) ∙ ap (option_map (region_set j (λ (r : FlatRegion). record r { results = remove r.results k }))) h.there;
  number = h.number;
  apart = h.apart;
}

-- another element of a list is as it was
pub at_other : {X : Type 0} (i j : ℕ) (f : X → X) (xs : List X) → (i ≡ j → ⊥) → slice_get (at_with i f xs) j ≡ slice_get xs j
at_other i j f [] ne = refl
at_other zero zero f (x ∷ xs) ne = absurd (ne refl)
at_other zero (suc j) f (x ∷ xs) ne = refl
at_other (suc i) zero f (x ∷ xs) ne = refl
at_other (suc i) (suc j) f (x ∷ xs) ne = at_other i j f xs (λ e. ne (ap suc e))
