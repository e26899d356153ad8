-- What names a later one of a list follows where one goes: in the inputs and in the results of the region.
use Rattle.std.proofs.Common.{◌≡◌, ℕ, zero, suc, ◌+◌, ◌≤◌, Bool, true, false, cond, eqb, ltb, Option, Some, None, option_map, List, [], ◌∷◌, length, map, refl, ap, sym, ◌∙◌, arith}
use Rattle.std.specs.Prelude.{option_and_then, slice_get}
use Rattle.std.proofs.lemmas.Bool.{ltb-false, eq-eqb}
use Rattle.std.proofs.lemmas.Option.{same_Some}
use Rattle.g_graph.specs.declared.op.Kind.{Kind}
use Rattle.g_graph.specs.declared.op.Origin.{Origin}
use Rattle.g_arena_def.specs.declared.place.Place.{Place}
use Rattle.g_arena_def.specs.Flat.{FlatRegion, FlatNode, Flat, same_place}
use Rattle.g_arena_def.specs.Reads.{found}
use Rattle.g_arena_def.specs.Edits.{node_with, at_with, inputs_at, region_with, uses_with}
use Rattle.g_arena_use.specs.Lists.{PlainList, PlainUses, origins_at, renamed_in, all_renamed}
use Rattle.g_arena_use.specs.Plain.{PlainSlot, slot_at, live_slot, number_in, results_number}
use Rattle.g_arena_use.specs.Seen.{homes_of, regions_seen, nodes_seen}
use Rattle.g_arena_use.specs.Indexed.{AreIndexed}
use Rattle.g_arena_use.proofs.SeenLemmas.{apart, picks, skips, seen_at}
use Rattle.g_arena_use.proofs.KindLemmas.{node_is}
use Rattle.g_arena_use.proofs.UseLemmas.{place_true}
use Rattle.g_arena_use.proofs.EditLemmas.{inputs_follow}
use Rattle.g_arena_use.proofs.ResultLemmas.{results_edited, renamed_one}
use Rattle.g_arena_use.proofs.ReadLemmas.{Shown, sees, emptied, regions_long}
use Rattle.g_arena_use.proofs.ChangeLemmas.{AreKept, only_at, results_change}

-- lists of a place that are empty stay as they are
empty_renamed : (p : Place) (f : Origin → Origin) (ls : List PlainList) → ((k : ℕ) → slice_get (homes_of ls) k ≡ Some p → origins_at ls k ≡ []) → all_renamed p f ls ≡ ls
empty_renamed p f [] h = refl
empty_renamed p f (l ∷ ls) h = by (same_place p l.home) refl (empty_renamed p f ls (λ k e. h (suc k) e))
  where
    by : (t : Bool) → same_place p l.home ≡ t → all_renamed p f ls ≡ ls → renamed_in p f l ∷ all_renamed p f ls ≡ l ∷ ls
    by true e r =
        let none : l.origins ≡ [] = h 0 (ap Some (sym (place_true p l.home e))) in
        let same : record l { origins = map f l.origins } ≡ l = (λ i. record { home = l.home; origins = map f (none i) }) ∙ (λ i. record { home = l.home; origins = sym none i }) in
        let q = picks (same_place p l.home) (record l { origins = map f l.origins }) l e ∙ same in
        λ i. q i ∷ r i
    by false e r = let q = skips (same_place p l.home) (record l { origins = map f l.origins }) l e in λ i. q i ∷ r i

renamed_homes : (p : Place) (f : Origin → Origin) (ls : List PlainList) → homes_of (all_renamed p f ls) ≡ homes_of ls
renamed_homes p f [] = refl
renamed_homes p f (l ∷ ls) = by (same_place p l.home) (renamed_homes p f ls)
  where
    by : (t : Bool) → homes_of (all_renamed p f ls) ≡ homes_of ls → (cond t (record l { origins = map f l.origins }) l).home ∷ homes_of (all_renamed p f ls) ≡ l.home ∷ homes_of ls
    by true r = ap (λ ps. l.home ∷ ps) r
    by false r = ap (λ ps. l.home ∷ ps) r

renamed_empty : (p : Place) (f : Origin → Origin) (ls : List PlainList) (k : ℕ) → origins_at ls k ≡ [] → origins_at (all_renamed p f ls) k ≡ []
renamed_empty p f [] k e = refl
renamed_empty p f (l ∷ ls) zero e = by (same_place p l.home)
  where
    by : (t : Bool) → (cond t (record l { origins = map f l.origins }) l).origins ≡ []
    by true = ap (map f) e
    by false = e
renamed_empty p f (l ∷ ls) (suc k) e = renamed_empty p f ls k e

pub renamed_kept : (p : Place) (f : Origin → Origin) (ls : List PlainList) → AreKept ls (all_renamed p f ls)
renamed_kept p f ls = record { homes = renamed_homes p f ls; empty = renamed_empty p f ls }

-- a node that is not there, and a region that is not there, do not change
node_absent : (n : ℕ) (g : FlatNode → FlatNode) (xs : List FlatNode) → found n xs ≡ None → node_with n g xs ≡ xs
node_absent n g [] e = refl
node_absent n g (x ∷ xs) e = by (eqb x.id n) e (node_absent n g xs)
  where
    by : (t : Bool) → cond t (Some x) (found n xs) ≡ None → (found n xs ≡ None → node_with n g xs ≡ xs) → cond t (g x ∷ xs) (x ∷ node_with n g xs) ≡ x ∷ xs
    by true e go = absurd (apart x (sym e))
    by false e go = ap (λ ys. x ∷ ys) (go e)

node_same : (n : ℕ) (g : FlatNode → FlatNode) (xs : List FlatNode) (x : FlatNode) → found n xs ≡ Some x → g x ≡ x → node_with n g xs ≡ xs
node_same n g [] x e s = refl
node_same n g (y ∷ xs) x e s = by (eqb y.id n) e (λ q. node_same n g xs x q s)
  where
    by : (t : Bool) → cond t (Some y) (found n xs) ≡ Some x → (found n xs ≡ Some x → node_with n g xs ≡ xs) → cond t (g y ∷ xs) (y ∷ node_with n g xs) ≡ y ∷ xs
    by true e go = let q : y ≡ x = same_Some y x e in ap (λ z. z ∷ xs) (ap g q ∙ s ∙ sym q)
    by false e go = ap (λ ys. y ∷ ys) (go e)

at_past : {A : Type 0} (k : ℕ) (f : A → A) (xs : List A) → length xs ≤ k → at_with k f xs ≡ xs
at_past k f [] le = refl
at_past zero f (x ∷ xs) le = absurd (omega arith)
at_past (suc k) f (x ∷ xs) le = ap (λ ys. x ∷ ys) (at_past k f xs (omega (arith, le)))

module _ (args : List Kind) (ss : List PlainSlot) (xs ls : PlainUses) (v : Flat) (h : Shown args ss xs ls v) where
  -- a region that is not there does not change
  region_absent : (g : FlatRegion → FlatRegion) (n r : ℕ) → None ≡ results_number (Some n) r ss → region_with (record { node = Some n; region = r }) g v ≡ v
  region_absent g n r e = by (live_slot n ss) refl
    where
      found_is : (o : Option ℕ) → live_slot n ss ≡ o → found n v.nodes ≡ option_map (seen_at xs.lists ls.lists ss) o
      found_is o q = node_is xs.lists ls.lists ss args v (sees args ss xs ls v h) n ∙ ap (option_map (seen_at xs.lists ls.lists ss)) q

      past : (i : ℕ) (t : Bool) → ltb r (length (slot_at ss i).regions) ≡ t → None ≡ cond t (Some ((slot_at ss i).results + r)) None → length (slot_at ss i).regions ≤ r
      past i true q f = absurd (apart ((slot_at ss i).results + r) f)
      past i false q f = ltb-false r (length (slot_at ss i).regions) q

      by : (o : Option ℕ) → live_slot n ss ≡ o → region_with (record { node = Some n; region = r }) g v ≡ v
      by None q =
          let a = node_absent n (λ (x : FlatNode). record x { regions = at_with r g x.regions }) v.nodes (found_is None q) in
          λ i. record v { nodes = a i }
      by (Some i) q =
          let few : length (slot_at ss i).regions ≤ r = past i (ltb r (length (slot_at ss i).regions)) refl (e ∙ ap (option_and_then (λ j. number_in (slot_at ss j) r)) q) in
          let same = at_past r g (regions_seen ls.lists (slot_at ss i).results (slot_at ss i).regions) (omega (arith, few, regions_long ls.lists (slot_at ss i).results (slot_at ss i).regions)) in
          let a = node_same n (λ (x : FlatNode). record x { regions = at_with r g x.regions }) v.nodes (seen_at xs.lists ls.lists ss i) (found_is (Some i) q) (λ k. record (seen_at xs.lists ls.lists ss i) { regions = same k }) in
          λ k. record v { nodes = a k }

  -- the results of the region at a place come from other origins
  pub results_follow : (p : Place) (f : Origin → Origin) → (p.node ≡ None → p.region ≡ 0)
      → record v { body = record { args = args; results = origins_at (all_renamed p f ls.lists) 0 }; nodes = nodes_seen xs.lists (all_renamed p f ls.lists) ss } ≡ region_with p (results_edited (map f)) v
  results_follow p f own = by (results_number p.node p.region ss) refl
    where
      stored : record v { body = record { args = args; results = origins_at ls.lists 0 }; nodes = nodes_seen xs.lists ls.lists ss } ≡ v
      stored = λ i. record v { body = sym h.body i; nodes = sym h.nodes i }

      absent : (o : Option ℕ) (r : ℕ) → (o ≡ None → r ≡ 0) → None ≡ results_number o r ss → v ≡ region_with (record { node = o; region = r }) (results_edited (map f)) v
      absent None r own e = absurd (apart 0 (e ∙ ap (λ t. cond t (Some 0) None) (eq-eqb r 0 (own refl))))
      absent (Some n) r own e = sym (region_absent (results_edited (map f)) n r e)

      by : (o : Option ℕ) → results_number p.node p.region ss ≡ o
          → record v { body = record { args = args; results = origins_at (all_renamed p f ls.lists) 0 }; nodes = nodes_seen xs.lists (all_renamed p f ls.lists) ss } ≡ region_with p (results_edited (map f)) v
      by None e =
          ap (λ ts. record v { body = record { args = args; results = origins_at ts 0 }; nodes = nodes_seen xs.lists ts ss }) (empty_renamed p f ls.lists (λ k q. emptied args ss xs ls v h p k (sym e) q))
          ∙ stored ∙ absent p.node p.region own (sym e)
      by (Some j) e =
          ap (λ ts. record v { body = record { args = args; results = origins_at ts 0 }; nodes = nodes_seen xs.lists ts ss }) (renamed_one p f j ls.lists (only_at args ss xs ls v h p j (sym e)))
          ∙ results_change args ss xs ls v h (map f) p j (sym e)

-- all uses in the region at a place come from other origins
pub uses_follow : (args : List Kind) (ss : List PlainSlot) (xs ls : PlainUses) (v : Flat) → Shown args ss xs ls v → (p : Place) (f : Origin → Origin) → (p.node ≡ None → p.region ≡ 0)
    → Shown args ss (record xs { lists = all_renamed p f xs.lists }) ls (record v { nodes = map (inputs_at p f) v.nodes })
    → record v {
      body = record { args = args; results = origins_at (all_renamed p f ls.lists) 0 };
      nodes = nodes_seen (all_renamed p f xs.lists) (all_renamed p f ls.lists) ss;
    } ≡ uses_with p f v
uses_follow args ss xs ls v h p f own k = results_follow args ss (record xs { lists = all_renamed p f xs.lists }) ls (record v { nodes = map (inputs_at p f) v.nodes }) k p f own

pub inputs_shown : (args : List Kind) (ss : List PlainSlot) (xs ls : PlainUses) (v : Flat) → Shown args ss xs ls v → (p : Place) (f : Origin → Origin) → AreIndexed args ss (record xs { lists = all_renamed p f xs.lists }) ls
    → Shown args ss (record xs { lists = all_renamed p f xs.lists }) ls (record v { nodes = map (inputs_at p f) v.nodes })
inputs_shown args ss xs ls v h p f is = record {
  is = is;
  nodes = ap (map (inputs_at p f)) h.nodes ∙ sym (inputs_follow p f xs.lists ls.lists ss h.is.inputs);
  body = h.body;
}
