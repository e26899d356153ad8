-- Uses of an origin that move one by one have all moved, once as many did as there were.
use Rattle.std.proofs.Common.{◌≡◌, ◌≤◌, ◌+◌, ◌⊎◌, inl, inr, ℕ, zero, suc, ◌==◌, ◌&&◌, ◌||◌, Bool, true, false, Option, None, Some, option_and_then, List, [], ◌∷◌, ◌++◌, map, refl, sym, ap, subst, ◌∙◌, arith}
use Rattle.std.specs.Prelude.{slice_get, if◌then◌else◌}
use Rattle.std.proofs.lemmas.Bool.{cases_Bool, or_parts}
use Rattle.std.proofs.lemmas.Option.{same_Some}
use Rattle.g_graph.specs.declared.op.Origin.{Origin}
use Rattle.g_graph.specs.Plain.{RegionTree, region, PlainLambda}
use Rattle.g_graph.specs.Ids.{region_ids}
use Rattle.g_graph.specs.Scope.{same_origin}
use Rattle.g_graph.specs.WellFormed.{some_of}
use Rattle.g_graph.specs.Replace.{nodes_redirected, region_redirected, origin_replaced}
use Rattle.g_arena_def.specs.declared.place.Place.{Place}
use Rattle.g_arena_def.specs.Flat.{FlatRegion, FlatNode, Flat, region_flat, in_region, in_nodes, flat_of, same_place}
use Rattle.g_arena_def.specs.Reads.{found, region_of, region_at, times, times_at, input_uses, result_uses, uses_in}
use Rattle.g_arena_def.specs.Edits.{node_with, at_with, changed_in, region_with, inputs_at, uses_with, first_with, uses_at, input_changed, use_changed}
use Rattle.r_sweep.specs.Removals.{uses_changed, uses_moved}
use Rattle.r_sweep.proofs.lemmas.Outside.{IsNone}
use Rattle.r_sweep.proofs.lemmas.Regions.{IsAlike}
use Rattle.r_sweep.proofs.lemmas.Around.{Around, with_nodes, region_set}
use Rattle.r_sweep.proofs.lemmas.Inputs.{map_both, inputs_apart, input_id, input_here, inputs_nodes}

-- ---- a region, changed

at_with_both : {X : Type 0} (k : ℕ) (f g : X → X) (xs : List X) → at_with k f (at_with k g xs) ≡ at_with k (λ x. f (g x)) xs
at_with_both k f g [] = refl
at_with_both zero f g (x ∷ xs) = refl
at_with_both (suc k) f g (x ∷ xs) = ap (λ ys. x ∷ ys) (at_with_both k f g xs)

at_with_got : {X : Type 0} (k : ℕ) (f : X → X) (x : X) (xs : List X) → slice_get xs k ≡ Some x → slice_get (at_with k f xs) k ≡ Some (f x)
at_with_got k f x [] e = absurd cc
at_with_got zero f x (y ∷ xs) e = ap (λ z. Some (f z)) (same_Some y x e)
at_with_got (suc k) f x (y ∷ xs) e = at_with_got k f x xs e

at_with_still : {X : Type 0} (k : ℕ) (f : X → X) (x : X) (xs : List X) → slice_get xs k ≡ Some x → f x ≡ x → at_with k f xs ≡ xs
at_with_still k f x [] e h = refl
at_with_still zero f x (y ∷ xs) e h = let s = same_Some y x e in ap (λ z. z ∷ xs) (ap f s ∙ h ∙ sym s)
at_with_still (suc k) f x (y ∷ xs) e h = ap (λ ys. y ∷ ys) (at_with_still k f x xs e h)

node_with_both : (n k : ℕ) (f g : FlatRegion → FlatRegion) (xs : List FlatNode) →
    node_with n (region_set k f) (node_with n (region_set k g) xs) ≡ node_with n (region_set k (λ r. f (g r))) xs
node_with_both n k f g [] = refl
node_with_both n k f g (x ∷ xs) = by (x.id == n) refl (node_with_both n k f g xs)
  where
    by : (t : Bool) → (x.id == n) ≡ t → node_with n (region_set k f) (node_with n (region_set k g) xs) ≡ node_with n (region_set k (λ r. f (g r))) xs →
        node_with n (region_set k f) (if t then region_set k g x ∷ xs else x ∷ node_with n (region_set k g) xs)
        ≡ (if t then region_set k (λ r. f (g r)) x ∷ xs else x ∷ node_with n (region_set k (λ r. f (g r))) xs)
    by true e h = ap (λ t. if t then region_set k f (region_set k g x) ∷ xs else region_set k g x ∷ node_with n (region_set k f) xs) e ∙ (λ i. record x { regions = at_with_both k f g x.regions i } ∷ xs)
    by false e h = ap (λ t. if t then region_set k f x ∷ node_with n (region_set k g) xs else x ∷ node_with n (region_set k f) (node_with n (region_set k g) xs)) e ∙ ap (λ ys. x ∷ ys) h

abbrev region_found : (n k : ℕ) → List FlatNode → Option FlatRegion
region_found n k xs = option_and_then (λ (x : FlatNode). slice_get x.regions k) (found n xs)

node_with_got : (n k : ℕ) (f : FlatRegion → FlatRegion) (r : FlatRegion) (xs : List FlatNode) → region_found n k xs ≡ Some r → region_found n k (node_with n (region_set k f) xs) ≡ Some (f r)
node_with_got n k f r [] e = absurd cc
node_with_got n k f r (x ∷ xs) e = by (x.id == n) refl e (λ d. node_with_got n k f r xs d)
  where
    by : (t : Bool) → (x.id == n) ≡ t → option_and_then (λ (y : FlatNode). slice_get y.regions k) (if t then Some x else found n xs) ≡ Some r → (region_found n k xs ≡ Some r → region_found n k (node_with n (region_set k f) xs) ≡ Some (f r)) →
        region_found n k (if t then region_set k f x ∷ xs else x ∷ node_with n (region_set k f) xs) ≡ Some (f r)
    by true t d h = ap (λ u. option_and_then (λ (y : FlatNode). slice_get y.regions k) (if u then Some (region_set k f x) else found n xs)) t ∙ at_with_got k f r x.regions d
    by false t d h = ap (λ u. option_and_then (λ (y : FlatNode). slice_get y.regions k) (if u then Some x else found n (node_with n (region_set k f) xs))) t ∙ h d

node_with_still : (n k : ℕ) (f : FlatRegion → FlatRegion) (r : FlatRegion) (xs : List FlatNode) → region_found n k xs ≡ Some r → f r ≡ r → node_with n (region_set k f) xs ≡ xs
node_with_still n k f r [] e h = refl
node_with_still n k f r (x ∷ xs) e h = by (x.id == n) e (λ d. node_with_still n k f r xs d h)
  where
    by : (t : Bool) → option_and_then (λ (y : FlatNode). slice_get y.regions k) (if t then Some x else found n xs) ≡ Some r → (region_found n k xs ≡ Some r → node_with n (region_set k f) xs ≡ xs) →
        (if t then region_set k f x ∷ xs else x ∷ node_with n (region_set k f) xs) ≡ x ∷ xs
    by true d g = λ i. record x { regions = at_with_still k f r x.regions d h i } ∷ xs
    by false d g = ap (λ ys. x ∷ ys) (g d)

pub region_with_both : (p : Place) (f g : FlatRegion → FlatRegion) (a : Flat) → region_with p f (region_with p g a) ≡ region_with p (λ r. f (g r)) a
region_with_both p f g a = by p.node
  where
    by : (o : Option ℕ) → changed_in o p.region f (changed_in o p.region g a) ≡ changed_in o p.region (λ r. f (g r)) a
    by None = refl
    by (Some n) = λ i. record a { nodes = node_with_both n p.region f g a.nodes i }

pub region_with_got : (p : Place) (f : FlatRegion → FlatRegion) (r : FlatRegion) (a : Flat) → region_at p a ≡ Some r → region_at p (region_with p f a) ≡ Some (f r)
region_with_got p f r a e = by p.node e
  where
    by_body : (t : Bool) → (if t then Some a.body else None) ≡ Some r → (if t then Some (f a.body) else None) ≡ Some (f r)
    by_body true d = ap (λ s. Some (f s)) (same_Some a.body r d)
    by_body false d = absurd cc

    by : (o : Option ℕ) → region_of o p.region a ≡ Some r → region_of o p.region (changed_in o p.region f a) ≡ Some (f r)
    by None d = by_body (p.region == 0) d
    by (Some n) d = node_with_got n p.region f r a.nodes d

pub region_with_still : (p : Place) (f : FlatRegion → FlatRegion) (r : FlatRegion) (a : Flat) → region_at p a ≡ Some r → f r ≡ r → region_with p f a ≡ a
region_with_still p f r a e h = by p.node e
  where
    by_body : (t : Bool) → (if t then Some a.body else None) ≡ Some r → f a.body ≡ a.body
    by_body true d = let s = same_Some a.body r d in ap f s ∙ h ∙ sym s
    by_body false d = absurd cc

    by : (o : Option ℕ) → region_of o p.region a ≡ Some r → changed_in o p.region f a ≡ a
    by None d = λ i. record a { body = by_body (p.region == 0) d i }
    by (Some n) d = λ i. record a { nodes = node_with_still n p.region f r a.nodes d h i }

-- ---- uses that move

module _ (p : Place) (from to : Origin) (other : same_origin from to ≡ false) where
  abbrev move : Origin → Origin
  move = origin_replaced from to

  abbrev moved : FlatRegion → FlatRegion
  moved r = record r { results = map move r.results }

  abbrev first_moved : FlatRegion → FlatRegion
  first_moved r = record r { results = first_with from to r.results }

  -- in a list of origins
  none_moved : (os : List Origin) → times from os ≡ 0 → map move os ≡ os
  none_moved [] e = refl
  none_moved (o ∷ os) e = by (same_origin from o) e (λ d. none_moved os d)
    where
      by : (t : Bool) → (if t then 1 else 0) + times from os ≡ 0 → (times from os ≡ 0 → map move os ≡ os) → (if t then to else o) ∷ map move os ≡ o ∷ os
      by true d h = absurd (omega (arith, d))
      by false d h = ap (λ ys. o ∷ ys) (h (omega (arith, d)))

  first_then : (os : List Origin) → map move (first_with from to os) ≡ map move os
  first_then [] = refl
  first_then (o ∷ os) = by (same_origin from o) refl (first_then os)
    where
      by : (t : Bool) → same_origin from o ≡ t → map move (first_with from to os) ≡ map move os → map move (if t then to ∷ os else o ∷ first_with from to os) ≡ (if t then to else o) ∷ map move os
      by true e h = ap (λ t. (if t then to else to) ∷ map move os) other
      by false e h = λ i. (if e i then to else o) ∷ h i

  one_less : (os : List Origin) → some_of (same_origin from) os ≡ true → suc (times from (first_with from to os)) ≡ times from os
  one_less [] e = absurd cc
  one_less (o ∷ os) e = by (same_origin from o) refl e (λ d. one_less os d)
    where
      by : (t : Bool) → same_origin from o ≡ t → (t || some_of (same_origin from) os) ≡ true →
          (some_of (same_origin from) os ≡ true → suc (times from (first_with from to os)) ≡ times from os) → suc (times from (if t then to ∷ os else o ∷ first_with from to os)) ≡ (if t then 1 else 0) + times from os
      by true q d h = ap (λ t. suc ((if t then 1 else 0) + times from os)) other ∙ omega arith
      by false q d h = ap (λ t. suc ((if t then 1 else 0) + times from (first_with from to os))) q ∙ omega (arith, h d)

  some_times : (os : List Origin) → some_of (same_origin from) os ≡ false → times from os ≡ 0
  some_times [] e = refl
  some_times (o ∷ os) e =
      let both = or_parts (same_origin from o) (some_of (same_origin from) os) e in
      ap (λ t. (if t then 1 else 0) + times from os) both.0 ∙ omega (arith, some_times os both.1)

  times_some : (os : List Origin) → 1 ≤ times from os → some_of (same_origin from) os ≡ true
  times_some os h = by (cases_Bool (some_of (same_origin from) os))
    where
      by : (some_of (same_origin from) os ≡ true) ⊎ (some_of (same_origin from) os ≡ false) → some_of (same_origin from) os ≡ true
      by (inl e) = e
      by (inr e) = absurd (omega (arith, h, some_times os e))

  -- in inputs
  inputs_none : (xs : List FlatNode) → input_uses p from xs ≡ 0 → map (inputs_at p move) xs ≡ xs
  inputs_none [] e = refl
  inputs_none (x ∷ xs) e = λ i. by (same_place x.home p) (omega (arith, e)) i ∷ inputs_none xs (omega (arith, e)) i
    where
      by : (t : Bool) → (if t then times from x.inputs else 0) ≡ 0 → (if t then record x { inputs = map move x.inputs } else x) ≡ x
      by true d = λ i. record x { inputs = none_moved x.inputs d i }
      by false d = refl

  inputs_then : (xs : List FlatNode) → map (inputs_at p move) (input_changed p from to xs) ≡ map (inputs_at p move) xs
  inputs_then [] = refl
  inputs_then (x ∷ xs) = by (same_place x.home p) (some_of (same_origin from) x.inputs) refl (inputs_then xs)
    where
      by : (t u : Bool) → same_place x.home p ≡ t → map (inputs_at p move) (input_changed p from to xs) ≡ map (inputs_at p move) xs →
          map (inputs_at p move) (if t && u then record x { inputs = first_with from to x.inputs } ∷ xs else x ∷ input_changed p from to xs) ≡ inputs_at p move x ∷ map (inputs_at p move) xs
      by true true e h =
          λ i. (input_here p move (record x { inputs = first_with from to x.inputs }) e ∙ (λ j. record x { inputs = first_then x.inputs j }) ∙ sym (input_here p move x e)) i ∷ map (inputs_at p move) xs
      by true false e h = ap (λ ys. inputs_at p move x ∷ ys) h
      by false u e h = ap (λ ys. inputs_at p move x ∷ ys) h

  inputs_less : (xs : List FlatNode) → some_of (uses_at p from) xs ≡ true → suc (input_uses p from (input_changed p from to xs)) ≡ input_uses p from xs
  inputs_less [] e = absurd cc
  inputs_less (x ∷ xs) e = by (same_place x.home p) (some_of (same_origin from) x.inputs) refl refl e (λ d. inputs_less xs d)
    where
      by : (t u : Bool) → same_place x.home p ≡ t → some_of (same_origin from) x.inputs ≡ u → ((t && u) || some_of (uses_at p from) xs) ≡ true →
          (some_of (uses_at p from) xs ≡ true → suc (input_uses p from (input_changed p from to xs)) ≡ input_uses p from xs) →
          suc (input_uses p from (if t && u then record x { inputs = first_with from to x.inputs } ∷ xs else x ∷ input_changed p from to xs))
          ≡ (if t then times from x.inputs else 0) + input_uses p from xs
      by true true q s d h = ap (λ t. suc ((if t then times from (first_with from to x.inputs) else 0) + input_uses p from xs)) q ∙ omega (arith, one_less x.inputs s)
      by true false q s d h = ap (λ t. suc ((if t then times from x.inputs else 0) + input_uses p from (input_changed p from to xs))) q ∙ omega (arith, h d)
      by false u q s d h = ap (λ t. suc ((if t then times from x.inputs else 0) + input_uses p from (input_changed p from to xs))) q ∙ omega (arith, h d)

  inputs_unused : (xs : List FlatNode) → some_of (uses_at p from) xs ≡ false → input_uses p from xs ≡ 0
  inputs_unused [] e = refl
  inputs_unused (x ∷ xs) e =
      let both = or_parts (uses_at p from x) (some_of (uses_at p from) xs) e in
      by (same_place x.home p) both.0 (inputs_unused xs both.1)
    where
      by : (t : Bool) → (t && some_of (same_origin from) x.inputs) ≡ false → input_uses p from xs ≡ 0 → (if t then times from x.inputs else 0) + input_uses p from xs ≡ 0
      by true d h = omega (arith, some_times x.inputs d, h)
      by false d h = omega (arith, h)

  -- regions stay where an input changes
  regions_still : (n k : ℕ) (xs : List FlatNode) → region_found n k (input_changed p from to xs) ≡ region_found n k xs
  regions_still n k [] = refl
  regions_still n k (x ∷ xs) = split (uses_at p from x) ∙ by (uses_at p from x) (x.id == n) (regions_still n k xs)
    where
      split : (t : Bool) → region_found n k (if t then record x { inputs = first_with from to x.inputs } ∷ xs else x ∷ input_changed p from to xs)
          ≡ option_and_then (λ (y : FlatNode). slice_get y.regions k)
          (if x.id == n then Some (if t then record x { inputs = first_with from to x.inputs } else x) else found n (if t then xs else input_changed p from to xs))
      split true = refl
      split false = refl

      by : (t u : Bool) → region_found n k (input_changed p from to xs) ≡ region_found n k xs →
          option_and_then (λ (y : FlatNode). slice_get y.regions k) (if u then Some (if t then record x { inputs = first_with from to x.inputs } else x) else found n (if t then xs else input_changed p from to xs))
          ≡ option_and_then (λ (y : FlatNode). slice_get y.regions k) (if u then Some x else found n xs)
      by true true h = refl
      by true false h = refl
      by false true h = refl
      by false false h = h

  region_still : (a : Flat) → region_at p (record a { nodes = input_changed p from to a.nodes }) ≡ region_at p a
  region_still a = by p.node
    where
      by : (o : Option ℕ) → region_of o p.region (record a { nodes = input_changed p from to a.nodes }) ≡ region_of o p.region a
      by None = refl
      by (Some n) = regions_still n p.region a.nodes

  -- inputs do not change where a region does
  inputs_commute : (n k : ℕ) (f : FlatRegion → FlatRegion) (g : Origin → Origin) (xs : List FlatNode) →
      map (inputs_at p g) (node_with n (region_set k f) xs) ≡ node_with n (region_set k f) (map (inputs_at p g) xs)
  inputs_commute n k f g [] = refl
  inputs_commute n k f g (x ∷ xs) = by (x.id == n) refl (inputs_commute n k f g xs)
    where
      head : (t : Bool) → (if t then record (region_set k f x) { inputs = map g x.inputs } else region_set k f x) ≡ region_set k f (if t then record x { inputs = map g x.inputs } else x)
      head true = refl
      head false = refl

      by : (u : Bool) → (x.id == n) ≡ u → map (inputs_at p g) (node_with n (region_set k f) xs) ≡ node_with n (region_set k f) (map (inputs_at p g) xs) →
          map (inputs_at p g) (if u then region_set k f x ∷ xs else x ∷ node_with n (region_set k f) xs) ≡ node_with n (region_set k f) (inputs_at p g x ∷ map (inputs_at p g) xs)
      by true e h =
          (λ i. head (same_place x.home p) i ∷ map (inputs_at p g) xs)
          ∙ sym (ap (λ u. if u then region_set k f (inputs_at p g x) ∷ map (inputs_at p g) xs else inputs_at p g x ∷ node_with n (region_set k f) (map (inputs_at p g) xs))
          (ap (λ m. m == n) (input_id p g x) ∙ e))
      by false e h =
          ap (λ ys. inputs_at p g x ∷ ys) h
          ∙ sym (ap (λ u. if u then region_set k f (inputs_at p g x) ∷ map (inputs_at p g) xs else inputs_at p g x ∷ node_with n (region_set k f) (map (inputs_at p g) xs))
          (ap (λ m. m == n) (input_id p g x) ∙ e))

  uses_alone : (n k : ℕ) (f : FlatRegion → FlatRegion) (xs : List FlatNode) → input_uses p from (node_with n (region_set k f) xs) ≡ input_uses p from xs
  uses_alone n k f [] = refl
  uses_alone n k f (x ∷ xs) = by (x.id == n) (uses_alone n k f xs)
    where
      by : (u : Bool) → input_uses p from (node_with n (region_set k f) xs) ≡ input_uses p from xs → input_uses p from (if u then region_set k f x ∷ xs else x ∷ node_with n (region_set k f) xs) ≡ input_uses p from (x ∷ xs)
      by true h = refl
      by false h = ap (λ c. times_at p from x + c) h

  -- one use moves
  use_then : (a : Flat) → uses_with p move (use_changed p from to a) ≡ uses_with p move a
  use_then a = by (some_of (uses_at p from) a.nodes)
    where
      apart : (o : Option ℕ) → record (changed_in o p.region first_moved a) { nodes = map (inputs_at p move) (changed_in o p.region first_moved a).nodes }
          ≡ changed_in o p.region first_moved (record a { nodes = map (inputs_at p move) a.nodes })
      apart None = refl
      apart (Some n) = λ i. record a { nodes = inputs_commute n p.region first_moved move a.nodes i }

      by : (t : Bool) → uses_with p move (if t then record a { nodes = input_changed p from to a.nodes } else region_with p first_moved a) ≡ uses_with p move a
      by true = ap (λ ys. region_with p moved (record a { nodes = ys })) (inputs_then a.nodes)
      by false =
          ap (region_with p moved) (apart p.node) ∙ region_with_both p moved first_moved (record a { nodes = map (inputs_at p move) a.nodes })
          ∙ (λ i. region_with p (λ r. record r { results = first_then r.results i }) (record a { nodes = map (inputs_at p move) a.nodes }))

  -- and there is one less, and the region stays
  record OneLess (a : Flat) (count : ℕ) : Type 0 where
    region : FlatRegion
    there : region_at p a ≡ Some region
    left : uses_in p from a ≡ count

  use_less : (c : ℕ) (a : Flat) → OneLess a (suc c) → OneLess (use_changed p from to a) c
  use_less c a h = by (some_of (uses_at p from) a.nodes) refl
    where
      alone : (o : Option ℕ) → input_uses p from (changed_in o p.region first_moved a).nodes ≡ input_uses p from a.nodes
      alone None = refl
      alone (Some n) = uses_alone n p.region first_moved a.nodes

      results : result_uses from (region_at p a) ≡ times from h.region.results
      results = ap (result_uses from) h.there

      by : (t : Bool) → some_of (uses_at p from) a.nodes ≡ t → OneLess (if t then record a { nodes = input_changed p from to a.nodes } else region_with p first_moved a) c
      by true e = record {
        region = h.region;
        there = region_still a ∙ h.there;
        left = omega (arith, h.left, inputs_less a.nodes e, ap (result_uses from) (region_still a));
      }
      by false e =
          let got = region_with_got p first_moved h.region a h.there in
          let none = inputs_unused a.nodes e in
          record {
            region = first_moved h.region;
            there = got;
            left = omega (
              arith,
              h.left,
              none,
              alone p.node,
              results,
              ap (result_uses from) got,
              one_less h.region.results (times_some h.region.results (omega (arith, h.left, none, results))),
            );
          }

  changed_after : (c : ℕ) (a : Flat) → uses_changed p from to c (use_changed p from to a) ≡ use_changed p from to (uses_changed p from to c a)
  changed_after zero a = refl
  changed_after (suc c) a = ap (use_changed p from to) (changed_after c a)

  uses_all : (c : ℕ) (a : Flat) → OneLess a c → uses_changed p from to c a ≡ uses_with p move a
  uses_all zero a h =
      let nodes = inputs_none a.nodes (omega (arith, h.left)) in
      let none : times from h.region.results ≡ 0 = omega (arith, h.left, ap (result_uses from) h.there) in
      sym (ap (λ ys. region_with p moved (record a { nodes = ys })) nodes ∙ region_with_still p moved h.region a h.there (λ i. record h.region { results = none_moved h.region.results none i }))
  uses_all (suc c) a h = sym (changed_after c a) ∙ uses_all c (use_changed p from to a) (use_less c a h) ∙ use_then a

  -- all uses have moved
  pub uses_are_moved : (a : Flat) (r : FlatRegion) → region_at p a ≡ Some r → uses_moved p from to a ≡ uses_with p move a
  uses_are_moved a r e = uses_all (uses_in p from a) a (record { region = r; there = e; left = refl })

-- ---- in the region of a node

pub redirected_is : (n : ℕ) (l : PlainLambda) (z : Around n l) (f : Origin → Origin) → IsAlike z.here (region_redirected f z.here) →
    uses_with z.place f (flat_of l) ≡ flat_of (record l { body = z.fill (region_redirected f z.here) })
redirected_is n l z f alike = by z.here refl
  where
    by : (h : RegionTree) → z.here ≡ h → uses_with z.place f (flat_of l) ≡ flat_of (record l { body = z.fill (region_redirected f z.here) })
    by (region args ns results) is =
        let r : FlatRegion = record { args = args; results = results } in
        let s : FlatRegion = record { args = args; results = map f results } in
        let moved : FlatRegion → FlatRegion = λ q. record q { results = map f q.results } in
        let start : flat_of l ≡ with_nodes l (z.body r) (z.before r ++ (in_nodes z.place ns ++ z.after)) =
        ap (λ b. flat_of (record l { body = b })) (sym z.is) ∙ z.flat_is z.here (record { args = refl; results = refl })
        ∙ ap (λ h. with_nodes l (z.body (region_flat h)) (z.before (region_flat h) ++ (in_region z.place h ++ z.after))) is in
        let now : region_redirected f z.here ≡ region args (nodes_redirected f ns) (map f results) = ap (region_redirected f) is in
        let own = subst (λ h. IsNone z.place.node (region_ids h)) is z.own in
        ap (uses_with z.place f) start
        ∙ ap (λ ys. region_with z.place moved (with_nodes l (z.body r) ys))
        (map_both (inputs_at z.place f) (z.before r) (in_nodes z.place ns ++ z.after)
        ∙ (λ i. inputs_apart z.place f (z.before r) (z.apart r).0 i ++ map_both (inputs_at z.place f) (in_nodes z.place ns) z.after i)
        ∙ (λ i. z.before r ++ (inputs_nodes z.place f ns own i ++ inputs_apart z.place f z.after (z.apart r).1 i)))
        ∙ z.sets moved r (in_nodes z.place (nodes_redirected f ns) ++ z.after)
        ∙ sym (ap (λ h. with_nodes l (z.body (region_flat h)) (z.before (region_flat h) ++ (in_region z.place h ++ z.after))) now)
        ∙ sym (z.flat_is (region_redirected f z.here) alike)
