-- Changes of what is stored as changes of the nodes that are seen.
use Rattle.std.proofs.Common.{◌≡◌, ℕ, suc, Bool, true, false, cond, eqb, Option, Some, None, option_map, List, [], ◌∷◌, length, map, set, refl, ap, sym, ◌∙◌, arith}
use Rattle.std.proofs.lemmas.Option.{same_Some}
use Rattle.g_graph.specs.declared.op.Origin.{Origin}
use Rattle.g_arena_def.specs.declared.place.Place.{Place}
use Rattle.g_arena_def.specs.Flat.{FlatNode, same_place}
use Rattle.g_arena_def.specs.Edits.{node_with, at_with, inputs_at}
use Rattle.g_arena_use.specs.Lists.{PlainList, renamed_in, all_renamed}
use Rattle.g_arena_use.specs.Plain.{PlainSlot, is_live, slot_at, live_slot}
use Rattle.g_arena_use.specs.Seen.{slot_seen, nodes_seen}
use Rattle.g_arena_use.specs.Indexed.{AreInputs}
use Rattle.g_arena_use.proofs.SeenLemmas.{apart, picks, skips}
use Rattle.g_arena_use.proofs.UseLemmas.{later_inputs, same_head, same_place_sym}

one_more : (o : Option ℕ) (k : ℕ) → option_map suc o ≡ Some k → (j : ℕ) × (o ≡ Some j) × (k ≡ suc j)
one_more None k h = absurd (apart k h)
one_more (Some j) k h = (j, refl, sym (same_Some _ _ h))

abbrev pub inputs_edited : (List Origin → List Origin) → FlatNode → FlatNode
inputs_edited f x = record x { inputs = f x.inputs }

abbrev pub list_edited : (List Origin → List Origin) → PlainList → PlainList
list_edited f l = record l { origins = f l.origins }

-- where the number of a node stands in the list of the slots, and the slot is there
record Own (n : ℕ) (s : PlainSlot) (ss : List PlainSlot) (i : ℕ) : Type 0 where
  here : (eqb s.id n ≡ true) → (is_live s ≡ true) × (i ≡ 0)
  later : (eqb s.id n ≡ false) → (j : ℕ) × (live_slot n ss ≡ Some j) × (i ≡ suc j)

own : (n : ℕ) (s : PlainSlot) (ss : List PlainSlot) (i : ℕ) → live_slot n (s ∷ ss) ≡ Some i → Own n s ss i
own n s ss i h = record {
  here = λ e. by_live (is_live s) (sym (picks (eqb s.id n) (cond (is_live s) (Some 0) None) (option_map suc (live_slot n ss)) e) ∙ h);
  later = λ e. one_more (live_slot n ss) i (sym (skips (eqb s.id n) (cond (is_live s) (Some 0) None) (option_map suc (live_slot n ss)) e) ∙ h);
}
  where
    by_live : (t : Bool) → cond t (Some 0) None ≡ Some i → (t ≡ true) × (i ≡ 0)
    by_live true g = (refl, sym (same_Some 0 i g))
    by_live false g = absurd (apart i g)

-- the inputs of a node change
pub inputs_change : (f : List Origin → List Origin) (xs ls : List PlainList) (ss : List PlainSlot) (n i : ℕ) → length xs ≡ length ss → live_slot n ss ≡ Some i
    → nodes_seen (at_with i (list_edited f) xs) ls ss ≡ node_with n (inputs_edited f) (nodes_seen xs ls ss)
inputs_change f xs ls [] n i e h = absurd (apart i h)
inputs_change f [] ls (s ∷ ss) n i e h = absurd (omega (arith, e))
inputs_change f (x ∷ xs) ls (s ∷ ss) n i e h = by_own (λ j g. inputs_change f xs ls ss n j (omega (arith, e)) g) (eqb s.id n) refl
  where
    o : Own n s ss i
    o = own n s ss i h

    at_head : (is_live s ≡ true) → (eqb s.id n ≡ true) → nodes_seen (at_with 0 (list_edited f) (x ∷ xs)) ls (s ∷ ss) ≡ node_with n (inputs_edited f) (nodes_seen (x ∷ xs) ls (s ∷ ss))
    at_head l q =
        picks (is_live s) (slot_seen (f x.origins) ls s ∷ nodes_seen xs ls ss) (nodes_seen xs ls ss) l
        ∙ sym (picks (eqb s.id n) (inputs_edited f (slot_seen x.origins ls s) ∷ nodes_seen xs ls ss) (slot_seen x.origins ls s ∷ node_with n (inputs_edited f) (nodes_seen xs ls ss)) q)
        ∙ ap (node_with n (inputs_edited f)) (sym (picks (is_live s) (slot_seen x.origins ls s ∷ nodes_seen xs ls ss) (nodes_seen xs ls ss) l))

    at_rest : (j : ℕ) → nodes_seen (at_with j (list_edited f) xs) ls ss ≡ node_with n (inputs_edited f) (nodes_seen xs ls ss) → (eqb s.id n ≡ false) → (t : Bool)
        → cond t (slot_seen x.origins ls s ∷ nodes_seen (at_with j (list_edited f) xs) ls ss) (nodes_seen (at_with j (list_edited f) xs) ls ss)
        ≡ node_with n (inputs_edited f) (cond t (slot_seen x.origins ls s ∷ nodes_seen xs ls ss) (nodes_seen xs ls ss))
    at_rest j r q true =
        ap (λ r. slot_seen x.origins ls s ∷ r) r
        ∙ sym (skips (eqb s.id n) (inputs_edited f (slot_seen x.origins ls s) ∷ nodes_seen xs ls ss) (slot_seen x.origins ls s ∷ node_with n (inputs_edited f) (nodes_seen xs ls ss)) q)
    at_rest j r q false = r

    by_own : ((j : ℕ) → live_slot n ss ≡ Some j → nodes_seen (at_with j (list_edited f) xs) ls ss ≡ node_with n (inputs_edited f) (nodes_seen xs ls ss)) → (t : Bool) → eqb s.id n ≡ t → nodes_seen (at_with i (list_edited f) (x ∷ xs)) ls (s ∷ ss) ≡ node_with n (inputs_edited f) (nodes_seen (x ∷ xs) ls (s ∷ ss))
    by_own ih true q =
        let r = o.here q in
        ap (λ k. nodes_seen (at_with k (list_edited f) (x ∷ xs)) ls (s ∷ ss)) r.1 ∙ at_head r.0 q
    by_own ih false q =
        let r = o.later q in
        ap (λ k. nodes_seen (at_with k (list_edited f) (x ∷ xs)) ls (s ∷ ss)) r.2 ∙ at_rest r.0 (ih r.0 r.1) q (is_live s)

-- a slot changes, and stays there with its number
pub slot_changes : (g : FlatNode → FlatNode) (xs ls : List PlainList) (ss : List PlainSlot) (n i : ℕ) (t : PlainSlot) → length xs ≡ length ss → live_slot n ss ≡ Some i
    → is_live t ≡ true → ((os : List Origin) → slot_seen os ls t ≡ g (slot_seen os ls (slot_at ss i)))
    → nodes_seen xs ls (set ss i t) ≡ node_with n g (nodes_seen xs ls ss)
slot_changes g xs ls [] n i t e h l same = absurd (apart i h)
slot_changes g [] ls (s ∷ ss) n i t e h l same = absurd (omega (arith, e))
slot_changes g (x ∷ xs) ls (s ∷ ss) n i t e h l same = by_own (λ j f z. slot_changes g xs ls ss n j t (omega (arith, e)) f l (λ os. same os ∙ ap (λ m. g (slot_seen os ls (slot_at (s ∷ ss) m))) z)) (eqb s.id n) refl
  where
    o : Own n s ss i
    o = own n s ss i h

    by_index : (k : ℕ) → i ≡ k → ((os : List Origin) → slot_seen os ls t ≡ g (slot_seen os ls (slot_at (s ∷ ss) k)))
    by_index k z os = same os ∙ ap (λ m. g (slot_seen os ls (slot_at (s ∷ ss) m))) z

    at_rest : (j : ℕ) → nodes_seen xs ls (set ss j t) ≡ node_with n g (nodes_seen xs ls ss) → (eqb s.id n ≡ false) → (b : Bool)
        → cond b (slot_seen x.origins ls s ∷ nodes_seen xs ls (set ss j t)) (nodes_seen xs ls (set ss j t)) ≡ node_with n g (cond b (slot_seen x.origins ls s ∷ nodes_seen xs ls ss) (nodes_seen xs ls ss))
    at_rest j r q true =
        ap (λ r. slot_seen x.origins ls s ∷ r) r
        ∙ sym (skips (eqb s.id n) (g (slot_seen x.origins ls s) ∷ nodes_seen xs ls ss) (slot_seen x.origins ls s ∷ node_with n g (nodes_seen xs ls ss)) q)
    at_rest j r q false = r

    by_own : ((j : ℕ) → live_slot n ss ≡ Some j → i ≡ suc j → nodes_seen xs ls (set ss j t) ≡ node_with n g (nodes_seen xs ls ss)) → (b : Bool) → eqb s.id n ≡ b → nodes_seen (x ∷ xs) ls (set (s ∷ ss) i t) ≡ node_with n g (nodes_seen (x ∷ xs) ls (s ∷ ss))
    by_own ih true q =
        let r = o.here q in
        ap (λ k. nodes_seen (x ∷ xs) ls (set (s ∷ ss) k t)) r.1
        ∙ picks (is_live t) (slot_seen x.origins ls t ∷ nodes_seen xs ls ss) (nodes_seen xs ls ss) l
        ∙ ap (λ y. y ∷ nodes_seen xs ls ss) (by_index 0 r.1 x.origins)
        ∙ sym (picks (eqb s.id n) (g (slot_seen x.origins ls s) ∷ nodes_seen xs ls ss) (slot_seen x.origins ls s ∷ node_with n g (nodes_seen xs ls ss)) q)
        ∙ ap (node_with n g) (sym (picks (is_live s) (slot_seen x.origins ls s ∷ nodes_seen xs ls ss) (nodes_seen xs ls ss) r.0))
    by_own ih false q =
        let r = o.later q in
        ap (λ k. nodes_seen (x ∷ xs) ls (set (s ∷ ss) k t)) r.2 ∙ at_rest r.0 (ih r.0 r.1 r.2) q (is_live s)

-- the inputs in the region at a place come from other origins
pub inputs_follow : (p : Place) (f : Origin → Origin) (xs ls : List PlainList) (ss : List PlainSlot) → AreInputs xs ss
    → nodes_seen (all_renamed p f xs) ls ss ≡ map (inputs_at p f) (nodes_seen xs ls ss)
inputs_follow p f xs ls [] a = refl
inputs_follow p f [] ls (s ∷ ss) a = refl
inputs_follow p f (x ∷ xs) ls (s ∷ ss) a = by_live (inputs_follow p f xs ls ss (later_inputs x xs s ss a)) (is_live s)
  where
    same : same_place p x.home ≡ same_place s.home p
    same = ap (same_place p) (same_head _ _ _ _ a.homes).0 ∙ same_place_sym p s.home

    by_place : (t : Bool) → same_place p x.home ≡ t → slot_seen (renamed_in p f x).origins ls s ≡ inputs_at p f (slot_seen x.origins ls s)
    by_place true e =
        ap (λ (l : PlainList). slot_seen l.origins ls s) (picks (same_place p x.home) (record x { origins = map f x.origins }) x e)
        ∙ sym (picks (same_place s.home p) (slot_seen (map f x.origins) ls s) (slot_seen x.origins ls s) (sym same ∙ e))
    by_place false e =
        ap (λ (l : PlainList). slot_seen l.origins ls s) (skips (same_place p x.home) (record x { origins = map f x.origins }) x e)
        ∙ sym (skips (same_place s.home p) (slot_seen (map f x.origins) ls s) (slot_seen x.origins ls s) (sym same ∙ e))

    by_live : nodes_seen (all_renamed p f xs) ls ss ≡ map (inputs_at p f) (nodes_seen xs ls ss) → (t : Bool) → cond t (slot_seen (renamed_in p f x).origins ls s ∷ nodes_seen (all_renamed p f xs) ls ss) (nodes_seen (all_renamed p f xs) ls ss)
        ≡ map (inputs_at p f) (cond t (slot_seen x.origins ls s ∷ nodes_seen xs ls ss) (nodes_seen xs ls ss))
    by_live rest true = let h = by_place (same_place p x.home) refl in λ i. h i ∷ rest i
    by_live rest false = rest
