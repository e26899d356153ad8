-- Uses of an origin that move one by one: how many are left, and the kinds of all origins, which stay.
use Rattle.std.proofs.Common.{◌≡◌, ◌<◌, ◌≤◌, ◌+◌, ◌&&◌, ◌||◌, ◌⊎◌, inl, inr, ℕ, zero, suc, ◌==◌, Bool, true, false, Option, None, Some, option_and_then, List, [], ◌∷◌, refl, ap, ◌∙◌, arith}
use Rattle.std.specs.Prelude.{if◌then◌else◌, slice_get}
use Rattle.std.proofs.lemmas.Bool.{cases_Bool, or_parts}
use Rattle.g_graph.specs.declared.op.Kind.{Kind}
use Rattle.g_graph.specs.declared.op.Origin.{Origin}
use Rattle.g_graph.specs.declared.op.Origin.TheVariants.{Arg, Out}
use Rattle.g_graph.specs.Scope.{same_origin}
use Rattle.g_graph.specs.WellFormed.{some_of}
use Rattle.g_arena_def.specs.declared.place.Place.{Place}
use Rattle.g_arena_def.specs.Flat.{FlatRegion, FlatNode, Flat, same_place}
use Rattle.g_arena_def.specs.Reads.{found, region_of, kind_in, output_kind, times, input_uses, result_uses, uses_in}
use Rattle.g_arena_def.specs.Edits.{node_with, at_with, changed_in, region_with, first_with, uses_at, input_changed, use_changed}
use Rattle.r_sweep.specs.Removals.{uses_changed}
use Rattle.r_sweep.proofs.lemmas.Around.{region_set}

-- ---- what stays of a node where inputs and results change: its number, place and outputs, and its regions' arguments

abbrev arg_kind : (index k : ℕ) → FlatNode → Option Kind
arg_kind j k x = option_and_then (λ (r : FlatRegion). slice_get r.args k) (slice_get x.regions j)

record IsAlike (x y : FlatNode) : Type 0 where
  number : y.id ≡ x.id
  home : y.home ≡ x.home
  outputs : y.outputs ≡ x.outputs
  args : (j k : ℕ) → arg_kind j k y ≡ arg_kind j k x

itself : (x : FlatNode) → IsAlike x x
itself x = record { number = refl; home = refl; outputs = refl; args = λ j k. refl }

data AreAlike : List FlatNode → List FlatNode → Type 0 where
  no_node : AreAlike [] []
  one_node : (x y : FlatNode) (xs ys : List FlatNode) → IsAlike x y → AreAlike xs ys → AreAlike (x ∷ xs) (y ∷ ys)

all_themselves : (xs : List FlatNode) → AreAlike xs xs
all_themselves [] = no_node
all_themselves (x ∷ xs) = one_node x x xs xs (itself x) (all_themselves xs)

output_still : (q : Place) (n k : ℕ) (xs ys : List FlatNode) → AreAlike xs ys → option_and_then (output_kind q k) (found n ys) ≡ option_and_then (output_kind q k) (found n xs)
output_still q n k _ _ no_node = refl
output_still q n k _ _ (one_node x y xs ys h rest) =
    ap (λ i. option_and_then (output_kind q k) (if i == n then Some y else found n ys)) h.number ∙ by (x.id == n) (output_still q n k xs ys rest)
  where
    by : (t : Bool) → option_and_then (output_kind q k) (found n ys) ≡ option_and_then (output_kind q k) (found n xs) →
        option_and_then (output_kind q k) (if t then Some y else found n ys) ≡ option_and_then (output_kind q k) (if t then Some x else found n xs)
    by true e = λ i. if same_place (h.home i) q then slice_get (h.outputs i) k else None
    by false e = e

abbrev arg_of : (n j k : ℕ) → List FlatNode → Option Kind
arg_of n j k xs = option_and_then (λ (r : FlatRegion). slice_get r.args k) (option_and_then (λ (x : FlatNode). slice_get x.regions j) (found n xs))

arg_still : (n j k : ℕ) (xs ys : List FlatNode) → AreAlike xs ys → arg_of n j k ys ≡ arg_of n j k xs
arg_still n j k _ _ no_node = refl
arg_still n j k _ _ (one_node x y xs ys h rest) =
    ap (λ i. option_and_then (λ (r : FlatRegion). slice_get r.args k) (option_and_then (λ (z : FlatNode). slice_get z.regions j) (if i == n then Some y else found n ys))) h.number
    ∙ by (x.id == n) (arg_still n j k xs ys rest)
  where
    by : (t : Bool) → arg_of n j k ys ≡ arg_of n j k xs →
        option_and_then (λ (r : FlatRegion). slice_get r.args k) (option_and_then (λ (z : FlatNode). slice_get z.regions j) (if t then Some y else found n ys))
        ≡ option_and_then (λ (r : FlatRegion). slice_get r.args k) (option_and_then (λ (z : FlatNode). slice_get z.regions j) (if t then Some x else found n xs))
    by true e = h.args j k
    by false e = e

args_at : (k j i : ℕ) (f : FlatRegion → FlatRegion) → ((r : FlatRegion) → (f r).args ≡ r.args) → (rs : List FlatRegion) →
    option_and_then (λ (r : FlatRegion). slice_get r.args k) (slice_get (at_with j f rs) i) ≡ option_and_then (λ (r : FlatRegion). slice_get r.args k) (slice_get rs i)
args_at k j i f h [] = refl
args_at k zero zero f h (r ∷ rs) = ap (λ xs. slice_get xs k) (h r)
args_at k zero (suc i) f h (r ∷ rs) = refl
args_at k (suc j) zero f h (r ∷ rs) = refl
args_at k (suc j) (suc i) f h (r ∷ rs) = args_at k j i f h rs

-- a change of inputs, and one of results
module _ (p : Place) (from to : Origin) where
  abbrev first_moved : FlatRegion → FlatRegion
  first_moved r = record r { results = first_with from to r.results }

  inputs_alike : (xs : List FlatNode) → AreAlike xs (input_changed p from to xs)
  inputs_alike [] = no_node
  inputs_alike (x ∷ xs) = by (uses_at p from x) (inputs_alike xs)
    where
      by : (t : Bool) → AreAlike xs (input_changed p from to xs) → AreAlike (x ∷ xs) (if t then record x { inputs = first_with from to x.inputs } ∷ xs else x ∷ input_changed p from to xs)
      by true h = one_node x (record x { inputs = first_with from to x.inputs }) xs xs (record { number = refl; home = refl; outputs = refl; args = λ j k. refl }) (all_themselves xs)
      by false h = one_node x x xs (input_changed p from to xs) (itself x) h

  results_alike : (m j : ℕ) (xs : List FlatNode) → AreAlike xs (node_with m (region_set j first_moved) xs)
  results_alike m j [] = no_node
  results_alike m j (x ∷ xs) = by (x.id == m) (results_alike m j xs)
    where
      by : (t : Bool) → AreAlike xs (node_with m (region_set j first_moved) xs) → AreAlike (x ∷ xs) (if t then region_set j first_moved x ∷ xs else x ∷ node_with m (region_set j first_moved) xs)
      by true h =
          one_node x (region_set j first_moved x) xs xs (record { number = refl; home = refl; outputs = refl; args = λ i k. args_at k j i first_moved (λ r. refl) x.regions }) (all_themselves xs)
      by false h = one_node x x xs (node_with m (region_set j first_moved) xs) (itself x) h

  -- kinds stay
  kind_alike : (q : Place) (o : Origin) (a : Flat) (b : FlatRegion) (ys : List FlatNode) → b.args ≡ a.body.args → AreAlike a.nodes ys → kind_in q o (record a { body = b; nodes = ys }) ≡ kind_in q o a
  kind_alike q (Out n k) a b ys e h = output_still q n k a.nodes ys h
  kind_alike q (Arg k) a b ys e h = by q.node
    where
      by_body : (t : Bool) → option_and_then (λ (r : FlatRegion). slice_get r.args k) (if t then Some b else None) ≡ option_and_then (λ (r : FlatRegion). slice_get r.args k) (if t then Some a.body else None)
      by_body true = ap (λ xs. slice_get xs k) e
      by_body false = refl

      by : (o : Option ℕ) → option_and_then (λ (r : FlatRegion). slice_get r.args k) (region_of o q.region (record a { body = b; nodes = ys })) ≡ option_and_then (λ (r : FlatRegion). slice_get r.args k) (region_of o q.region a)
      by None = by_body (q.region == 0)
      by (Some n) = arg_still n q.region k a.nodes ys h

  pub kind_still : (q : Place) (o : Origin) (a : Flat) → kind_in q o (use_changed p from to a) ≡ kind_in q o a
  kind_still q o a = by (some_of (uses_at p from) a.nodes)
    where
      by_node : (m : Option ℕ) → kind_in q o (changed_in m p.region first_moved a) ≡ kind_in q o a
      by_node None = kind_alike q o a (first_moved a.body) a.nodes refl (all_themselves a.nodes)
      by_node (Some m) = kind_alike q o a a.body (node_with m (region_set p.region first_moved) a.nodes) refl (results_alike m p.region a.nodes)

      by : (t : Bool) → kind_in q o (if t then record a { nodes = input_changed p from to a.nodes } else region_with p first_moved a) ≡ kind_in q o a
      by true = kind_alike q o a a.body (input_changed p from to a.nodes) refl (inputs_alike a.nodes)
      by false = by_node p.node

  pub kinds_still : (q : Place) (o : Origin) (c : ℕ) (a : Flat) → kind_in q o (uses_changed p from to c a) ≡ kind_in q o a
  kinds_still q o zero a = refl
  kinds_still q o (suc c) a = kind_still q o (uses_changed p from to c a) ∙ kinds_still q o c a

-- ---- one use less

module _ (p : Place) (from to : Origin) (other : same_origin from to ≡ false) where
  list_less : (os : List Origin) → some_of (same_origin from) os ≡ true → suc (times from (first_with from to os)) ≡ times from os
  list_less [] e = absurd cc
  list_less (o ∷ os) e = by (same_origin from o) refl e (λ d. list_less os d)
    where
      by : (t : Bool) → same_origin from o ≡ t → (t || some_of (same_origin from) os) ≡ true →
          (some_of (same_origin from) os ≡ true → suc (times from (first_with from to os)) ≡ times from os) → suc (times from (if t then to ∷ os else o ∷ first_with from to os)) ≡ (if t then 1 else 0) + times from os
      by true q d h = ap (λ t. suc ((if t then 1 else 0) + times from os)) other ∙ omega arith
      by false q d h = ap (λ t. suc ((if t then 1 else 0) + times from (first_with from to os))) q ∙ omega (arith, h d)

  times_none : (os : List Origin) → some_of (same_origin from) os ≡ false → times from os ≡ 0
  times_none [] e = refl
  times_none (o ∷ os) e =
      let both = or_parts (same_origin from o) (some_of (same_origin from) os) e in
      ap (λ t. (if t then 1 else 0) + times from os) both.0 ∙ omega (arith, times_none os both.1)

  times_some : (os : List Origin) → 0 < times from os → some_of (same_origin from) os ≡ true
  times_some os h = by (cases_Bool (some_of (same_origin from) os))
    where
      by : (some_of (same_origin from) os ≡ true) ⊎ (some_of (same_origin from) os ≡ false) → some_of (same_origin from) os ≡ true
      by (inl e) = e
      by (inr e) = absurd (omega (arith, h, times_none os e))

  inputs_less : (xs : List FlatNode) → some_of (uses_at p from) xs ≡ true → suc (input_uses p from (input_changed p from to xs)) ≡ input_uses p from xs
  inputs_less [] e = absurd cc
  inputs_less (x ∷ xs) e = by (same_place x.home p) (some_of (same_origin from) x.inputs) refl refl e (λ d. inputs_less xs d)
    where
      by : (t u : Bool) → same_place x.home p ≡ t → some_of (same_origin from) x.inputs ≡ u → ((t && u) || some_of (uses_at p from) xs) ≡ true →
          (some_of (uses_at p from) xs ≡ true → suc (input_uses p from (input_changed p from to xs)) ≡ input_uses p from xs) →
          suc (input_uses p from (if t && u then record x { inputs = first_with from to x.inputs } ∷ xs else x ∷ input_changed p from to xs))
          ≡ (if t then times from x.inputs else 0) + input_uses p from xs
      by true true q s d h = ap (λ t. suc ((if t then times from (first_with from to x.inputs) else 0) + input_uses p from xs)) q ∙ omega (arith, list_less x.inputs s)
      by true false q s d h = ap (λ t. suc ((if t then times from x.inputs else 0) + input_uses p from (input_changed p from to xs))) q ∙ omega (arith, h d)
      by false u q s d h = ap (λ t. suc ((if t then times from x.inputs else 0) + input_uses p from (input_changed p from to xs))) q ∙ omega (arith, h d)

  inputs_unused : (xs : List FlatNode) → some_of (uses_at p from) xs ≡ false → input_uses p from xs ≡ 0
  inputs_unused [] e = refl
  inputs_unused (x ∷ xs) e =
      let both = or_parts (uses_at p from x) (some_of (uses_at p from) xs) e in
      by (same_place x.home p) both.0 (inputs_unused xs both.1)
    where
      by : (t : Bool) → (t && some_of (same_origin from) x.inputs) ≡ false → input_uses p from xs ≡ 0 → (if t then times from x.inputs else 0) + input_uses p from xs ≡ 0
      by true d h = omega (arith, times_none x.inputs d, h)
      by false d h = omega (arith, h)

  -- inputs do not depend on results, nor results on inputs
  inputs_alone : (m k : ℕ) (f : FlatRegion → FlatRegion) (xs : List FlatNode) → input_uses p from (node_with m (region_set k f) xs) ≡ input_uses p from xs
  inputs_alone m k f [] = refl
  inputs_alone m k f (x ∷ xs) = by (x.id == m) (inputs_alone m k f xs)
    where
      by : (t : Bool) → input_uses p from (node_with m (region_set k f) xs) ≡ input_uses p from xs → input_uses p from (if t then region_set k f x ∷ xs else x ∷ node_with m (region_set k f) xs) ≡ input_uses p from (x ∷ xs)
      by true h = refl
      by false h = ap (λ c. (if same_place x.home p then times from x.inputs else 0) + c) h

  abbrev there : (m k : ℕ) → List FlatNode → Option FlatRegion
  there m k xs = option_and_then (λ (x : FlatNode). slice_get x.regions k) (found m xs)

  results_alone : (m k : ℕ) (xs : List FlatNode) → there m k (input_changed p from to xs) ≡ there m k xs
  results_alone m k [] = refl
  results_alone m k (x ∷ xs) = by (uses_at p from x) (results_alone m k xs)
    where
      same : (u : Bool) → option_and_then (λ (y : FlatNode). slice_get y.regions k) (if u then Some (record x { inputs = first_with from to x.inputs }) else found m xs)
          ≡ option_and_then (λ (y : FlatNode). slice_get y.regions k) (if u then Some x else found m xs)
      same true = refl
      same false = refl

      later : (u : Bool) → there m k (input_changed p from to xs) ≡ there m k xs →
          option_and_then (λ (y : FlatNode). slice_get y.regions k) (if u then Some x else found m (input_changed p from to xs)) ≡ option_and_then (λ (y : FlatNode). slice_get y.regions k) (if u then Some x else found m xs)
      later true h = refl
      later false h = h

      by : (t : Bool) → there m k (input_changed p from to xs) ≡ there m k xs → there m k (if t then record x { inputs = first_with from to x.inputs } ∷ xs else x ∷ input_changed p from to xs) ≡ there m k (x ∷ xs)
      by true h = same (x.id == m)
      by false h = later (x.id == m) h

  -- the results of the region
  at_less : (k : ℕ) (rs : List FlatRegion) → 0 < result_uses from (slice_get rs k) → suc (result_uses from (slice_get (at_with k (first_moved p from to) rs) k)) ≡ result_uses from (slice_get rs k)
  at_less k [] h = absurd (omega (arith, h))
  at_less zero (r ∷ rs) h = list_less r.results (times_some r.results h)
  at_less (suc k) (r ∷ rs) h = at_less k rs h

  nodes_less : (m k : ℕ) (xs : List FlatNode) → 0 < result_uses from (there m k xs) → suc (result_uses from (there m k (node_with m (region_set k (first_moved p from to)) xs))) ≡ result_uses from (there m k xs)
  nodes_less m k [] h = absurd (omega (arith, h))
  nodes_less m k (x ∷ xs) h = by (x.id == m) refl h (λ d. nodes_less m k xs d)
    where
      by : (t : Bool) → (x.id == m) ≡ t → 0 < result_uses from (option_and_then (λ (y : FlatNode). slice_get y.regions k) (if t then Some x else found m xs)) →
          (0 < result_uses from (there m k xs) → suc (result_uses from (there m k (node_with m (region_set k (first_moved p from to)) xs))) ≡ result_uses from (there m k xs)) →
          suc (result_uses from (there m k (if t then region_set k (first_moved p from to) x ∷ xs else x ∷ node_with m (region_set k (first_moved p from to)) xs)))
          ≡ result_uses from (option_and_then (λ (y : FlatNode). slice_get y.regions k) (if t then Some x else found m xs))
      by true q d f =
          ap (λ t. suc (result_uses from (option_and_then (λ (y : FlatNode). slice_get y.regions k) (if t then Some (region_set k (first_moved p from to) x) else found m xs)))) q ∙ at_less k x.regions d
      by false q d f =
          ap (λ t. suc (result_uses from (option_and_then (λ (y : FlatNode). slice_get y.regions k) (if t then Some x else found m (node_with m (region_set k (first_moved p from to)) xs))))) q ∙ f d

  pub use_less : (a : Flat) → 0 < uses_in p from a → suc (uses_in p from (use_changed p from to a)) ≡ uses_in p from a
  use_less a h = by (some_of (uses_at p from) a.nodes) refl
    where
      still : (o : Option ℕ) → region_of o p.region (record a { nodes = input_changed p from to a.nodes }) ≡ region_of o p.region a
      still None = refl
      still (Some m) = results_alone m p.region a.nodes

      by_body : (t : Bool) → 0 < result_uses from (if t then Some a.body else None) → suc (result_uses from (if t then Some (first_moved p from to a.body) else None)) ≡ result_uses from (if t then Some a.body else None)
      by_body true d = list_less a.body.results (times_some a.body.results d)
      by_body false d = absurd (omega (arith, d))

      by_node : (o : Option ℕ) → 0 < result_uses from (region_of o p.region a) → input_uses p from a.nodes ≡ 0 →
          suc (input_uses p from (changed_in o p.region (first_moved p from to) a).nodes + result_uses from (region_of o p.region (changed_in o p.region (first_moved p from to) a)))
          ≡ input_uses p from a.nodes + result_uses from (region_of o p.region a)
      by_node None d e = omega (arith, e, by_body (p.region == 0) d)
      by_node (Some m) d e = omega (arith, e, inputs_alone m p.region (first_moved p from to) a.nodes, nodes_less m p.region a.nodes d)

      by : (t : Bool) → some_of (uses_at p from) a.nodes ≡ t → suc (uses_in p from (if t then record a { nodes = input_changed p from to a.nodes } else region_with p (first_moved p from to) a)) ≡ uses_in p from a
      by true e = omega (arith, inputs_less a.nodes e, ap (result_uses from) (still p.node))
      by false e = let d = inputs_unused a.nodes e in by_node p.node (omega (arith, h, d)) d

  -- so many have moved
  pub uses_left : (c : ℕ) (a : Flat) → c ≤ uses_in p from a → uses_in p from (uses_changed p from to c a) + c ≡ uses_in p from a
  uses_left zero a h = omega arith
  uses_left (suc c) a h =
      let rest = uses_left c a (omega (arith, h)) in
      omega (arith, rest, use_less (uses_changed p from to c a) (omega (arith, rest, h)))
