-- The list of nodes after uses of a node moved: what was passed has the same keys, and the numbers are the same.
use Rattle.std.proofs.Common.{◌≡◌, ◌+◌, ℕ, ◌==◌, ◌&&◌, Bool, true, false, Option, None, Some, List, [], ◌∷◌, map, refl, sym, ap, subst, ◌∙◌, arith}
use Rattle.std.specs.Prelude.{if◌then◌else◌}
use Rattle.g_graph.specs.declared.op.Op.{Op}
use Rattle.g_graph.specs.declared.op.Origin.{Origin}
use Rattle.g_graph.specs.Scope.{same_origin}
use Rattle.g_graph.specs.Views.{same_op}
use Rattle.g_graph.specs.Replace.{origin_replaced}
use Rattle.g_arena_def.specs.declared.place.Place.{Place}
use Rattle.g_arena_def.specs.Flat.{FlatRegion, FlatNode, Flat, same_place}
use Rattle.g_arena_def.specs.Reads.{ids, times, input_uses}
use Rattle.g_arena_def.specs.Edits.{node_with, changed_in, inputs_at, uses_with}
use Rattle.g_arena_use.specs.Kept.{Kept}
use Rattle.r_edit.specs.Lookup.{same_origins}
use Rattle.r_sweep.proofs.lemmas.Around.{region_set}
use Rattle.r_sweep.proofs.lemmas.Inputs.{input_id}
use Rattle.r_sweep.specs.Walk.{until, passed}
use Rattle.r_cne.specs.Listed.{first_in}
use Rattle.r_cne.specs.First.{AreFirst, number}

-- ---- nodes with the same keys

record IsKeyed (x y : FlatNode) : Type 0 where
  id : y.id ≡ x.id
  home : y.home ≡ x.home
  of : y.op ≡ x.op
  inputs : y.inputs ≡ x.inputs

data SameKeys : List FlatNode → List FlatNode → Type 0 where
  no_node : SameKeys [] []
  one_node : (x y : FlatNode) (xs ys : List FlatNode) → IsKeyed x y → SameKeys xs ys → SameKeys (x ∷ xs) (y ∷ ys)

keyed_itself : (x : FlatNode) → IsKeyed x x
keyed_itself x = record { id = refl; home = refl; of = refl; inputs = refl }

keys_themselves : (xs : List FlatNode) → SameKeys xs xs
keys_themselves [] = no_node
keys_themselves (x ∷ xs) = one_node x x xs xs (keyed_itself x) (keys_themselves xs)

set_keys : (m k : ℕ) (f : FlatRegion → FlatRegion) (xs : List FlatNode) → SameKeys xs (node_with m (region_set k f) xs)
set_keys m k f [] = no_node
set_keys m k f (x ∷ xs) = by (x.id == m) (set_keys m k f xs)
  where
    by : (t : Bool) → SameKeys xs (node_with m (region_set k f) xs) → SameKeys (x ∷ xs) (if t then region_set k f x ∷ xs else x ∷ node_with m (region_set k f) xs)
    by true h = one_node x (region_set k f x) xs xs (record { id = refl; home = refl; of = refl; inputs = refl }) (keys_themselves xs)
    by false h = one_node x x xs (node_with m (region_set k f) xs) (keyed_itself x) h

until_keys : (n : ℕ) (xs ys : List FlatNode) → SameKeys xs ys → SameKeys (until number n xs) (until number n ys)
until_keys n _ _ no_node = no_node
until_keys n _ _ (one_node x y xs ys h rest) =
    subst (λ i. SameKeys (until number n (x ∷ xs)) (if i == n then [] else y ∷ until number n ys)) (sym h.id) (by (x.id == n) (until_keys n xs ys rest))
  where
    by : (t : Bool) → SameKeys (until number n xs) (until number n ys) → SameKeys (if t then [] else x ∷ until number n xs) (if t then [] else y ∷ until number n ys)
    by true r = no_node
    by false r = one_node x y (until number n xs) (until number n ys) h r

passed_keys : (cursor : Option ℕ) (xs ys : List FlatNode) → SameKeys xs ys → SameKeys (passed number cursor xs) (passed number cursor ys)
passed_keys None xs ys h = h
passed_keys (Some n) xs ys h = until_keys n xs ys h

first_keys : (p : Place) (op : Op) (is : List Origin) (xs ys : List FlatNode) → SameKeys xs ys → first_in p op is ys ≡ first_in p op is xs
first_keys p op is _ _ no_node = refl
first_keys p op is _ _ (one_node x y xs ys h rest) =
    let r = first_keys p op is xs ys rest in
    λ i. if same_place (h.home i) p && (same_op op (h.of i) && same_origins is (h.inputs i)) then Some (h.id i) else r i

numbers_keys : (xs ys : List FlatNode) → SameKeys xs ys → map number ys ≡ map number xs
numbers_keys _ _ no_node = refl
numbers_keys _ _ (one_node x y xs ys h rest) = let r = numbers_keys xs ys rest in λ i. h.id i ∷ r i

-- ---- uses that move

module _ (p : Place) (from to : Origin) where
  abbrev move : Origin → Origin
  move = origin_replaced from to

  list_unmoved : (os : List Origin) → times from os ≡ 0 → map move os ≡ os
  list_unmoved [] e = refl
  list_unmoved (o ∷ os) e = by (same_origin from o) e (λ d. list_unmoved os d)
    where
      by : (t : Bool) → (if t then 1 else 0) + times from os ≡ 0 → (times from os ≡ 0 → map move os ≡ os) → (if t then to else o) ∷ map move os ≡ o ∷ os
      by true d h = absurd (omega (arith, d))
      by false d h = ap (λ ys. o ∷ ys) (h (omega (arith, d)))

  unmoved : (xs : List FlatNode) → input_uses p from xs ≡ 0 → map (inputs_at p move) xs ≡ xs
  unmoved [] e = refl
  unmoved (x ∷ xs) e = λ i. by (same_place x.home p) (omega (arith, e)) i ∷ unmoved xs (omega (arith, e)) i
    where
      by : (t : Bool) → (if t then times from x.inputs else 0) ≡ 0 → (if t then record x { inputs = map move x.inputs } else x) ≡ x
      by true d = λ i. record x { inputs = list_unmoved x.inputs d i }
      by false d = refl

  until_moved : (n : ℕ) (xs : List FlatNode) → until number n (map (inputs_at p move) xs) ≡ map (inputs_at p move) (until number n xs)
  until_moved n [] = refl
  until_moved n (x ∷ xs) =
      ap (λ i. if i == n then [] else inputs_at p move x ∷ until number n (map (inputs_at p move) xs)) (input_id p move x) ∙ by (x.id == n) (until_moved n xs)
    where
      by : (t : Bool) → until number n (map (inputs_at p move) xs) ≡ map (inputs_at p move) (until number n xs) →
          (if t then [] else inputs_at p move x ∷ until number n (map (inputs_at p move) xs)) ≡ map (inputs_at p move) (if t then [] else x ∷ until number n xs)
      by true h = refl
      by false h = ap (λ ys. inputs_at p move x ∷ ys) h

  passed_moved : (cursor : Option ℕ) (xs : List FlatNode) → passed number cursor (map (inputs_at p move) xs) ≡ map (inputs_at p move) (passed number cursor xs)
  passed_moved None xs = refl
  passed_moved (Some n) xs = until_moved n xs

  numbers_moved : (xs : List FlatNode) → map number (map (inputs_at p move) xs) ≡ map number xs
  numbers_moved [] = refl
  numbers_moved (x ∷ xs) = λ i. input_id p move x i ∷ numbers_moved xs i

  module _ (a : Flat) where
    abbrev moved : FlatRegion → FlatRegion
    moved r = record r { results = map move r.results }

    abbrev nodes_moved : List FlatNode
    nodes_moved = map (inputs_at p move) a.nodes

    keys_after : SameKeys nodes_moved (uses_with p move a).nodes
    keys_after = by p.node
      where
        by : (o : Option ℕ) → SameKeys nodes_moved (changed_in o p.region moved (record a { nodes = nodes_moved })).nodes
        by None = keys_themselves nodes_moved
        by (Some m) = set_keys m p.region moved nodes_moved

    pub numbers_after : ids (uses_with p move a) ≡ ids a
    numbers_after = numbers_keys nodes_moved (uses_with p move a).nodes keys_after ∙ numbers_moved a.nodes

    -- what was passed keeps its first nodes
    pub first_after : (ks : List Kept) (xs : List FlatNode) (cursor : Option ℕ) → passed number cursor a.nodes ≡ xs → input_uses p from xs ≡ 0 → AreFirst ks xs → AreFirst ks (passed number cursor (uses_with p move a).nodes)
    first_after ks xs cursor e none first q op is c =
        first q op is c
        ∙ sym (first_keys q op is (passed number cursor nodes_moved) (passed number cursor (uses_with p move a).nodes) (passed_keys cursor nodes_moved (uses_with p move a).nodes keys_after)
        ∙ ap (first_in q op is) (passed_moved cursor a.nodes ∙ ap (map (inputs_at p move)) e ∙ unmoved xs none))
