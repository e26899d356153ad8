-- What is asked of the nodes that are seen, answered by what is stored.
use Rattle.std.proofs.Common.{◌≡◌, ℕ, zero, suc, ◌+◌, ◌<◌, Bool, true, false, ◌||◌, cond, eqb, ltb, Option, Some, None, option_map, List, [], ◌∷◌, ◌⊎◌, inl, inr, length, map, refl, ap, sym, ◌∙◌, subst, arith, true≢false}
use Rattle.std.specs.Prelude.{IsSome, option_and_then, slice_get}
use Rattle.std.proofs.lemmas.Bool.{eqb-true, eq-eqb, ltb-true, lt-ltb}
use Rattle.std.proofs.lemmas.List.{length-map}
use Rattle.std.proofs.lemmas.Option.{same_Some}
use Rattle.cell_lists.specs.Lists.{is_in, AreDistinct, first_or, last_or, before_in, after_in}
use Rattle.g_graph.specs.declared.op.Kind.{Kind}
use Rattle.g_graph.specs.declared.op.Origin.{Origin}
use Rattle.g_arena_def.specs.declared.place.Place.{Place}
use Rattle.g_arena_def.specs.Flat.{FlatNode, Flat, body_place, place_in}
use Rattle.g_arena_def.specs.Reads.{found, ids, node_before, node_after, pair_of, ends_of, View, view_of, region_at, result_at, kind_in, input_uses, result_uses, uses_in}
use Rattle.g_arena_use.specs.Lists.{PlainList, PlainUses, origins_at, use_in, uses_of}
use Rattle.g_arena_use.specs.Plain.{PlainSlot, is_live, slot_at, id_at, numbers_of, live_from, live_slot, number_in, results_number, args_of, kind_at}
use Rattle.g_arena_use.specs.Seen.{homes_of, regions_seen, nodes_seen}
use Rattle.g_arena_use.specs.Indexed.{IsOfSlot, AreIndexed}
use Rattle.g_arena_use.proofs.SeenLemmas.{apart, picks, skips, seen_at, ids_seen, ids_are, first_of_map, last_of_map, after_of_map, before_of_map, ids_apart, slot_is}
use Rattle.g_arena_use.proofs.KindLemmas.{Sees, node_is, region_is, both_of, agree, agrees, kind_is, result_is}
use Rattle.g_arena_use.proofs.UseLemmas.{input_uses_are, no_list_uses, one_list_uses}

-- what is stored, and what contracts see of it
pub record Shown (args : List Kind) (ss : List PlainSlot) (xs ls : PlainUses) (v : Flat) : Type 0 where
  pub is : AreIndexed args ss xs ls
  pub nodes : v.nodes ≡ nodes_seen xs.lists ls.lists ss
  pub body : v.body ≡ record { args = args; results = origins_at ls.lists 0 }

pub regions_long : (ls : List PlainList) (first : ℕ) (kss : List (List Kind)) → length (regions_seen ls first kss) ≡ length kss
regions_long ls first [] = refl
regions_long ls first (ks ∷ kss) = ap suc (regions_long ls (suc first) kss)

-- a list that has a result is there
list_there : (ls : List PlainList) (j k : ℕ) → IsSome (slice_get (origins_at ls j) k) → j < length ls
list_there [] j k h = absurd (true≢false (sym h))
list_there (l ∷ ls) zero k h = omega arith
list_there (l ∷ ls) (suc j) k h = omega (arith, list_there ls j k h)

pub some_within : {A : Type 0} (xs : List A) (k : ℕ) → IsSome (slice_get xs k) → k < length xs
some_within [] k h = absurd (true≢false (sym h))
some_within (x ∷ xs) zero h = omega arith
some_within (x ∷ xs) (suc k) h = omega (arith, some_within xs k h)

pub get_within : {A : Type 0} (xs : List A) (k : ℕ) (x : A) → slice_get xs k ≡ Some x → k < length xs
get_within [] k x h = absurd (apart x h)
get_within (y ∷ xs) zero x h = omega arith
get_within (y ∷ xs) (suc k) x h = omega (arith, get_within xs k x h)

-- a slot that is stored and did not go is that of its number
later : (k j : ℕ) (ks : List ℕ) → is_in k ks ≡ true → is_in k (j ∷ ks) ≡ true
later k j ks h = ap (λ b. eqb k j || b) h ∙ or_true (eqb k j)
  where
    or_true : (b : Bool) → (b || true) ≡ true
    or_true true = refl
    or_true false = refl

number_in_list : (ss : List PlainSlot) (i : ℕ) (s : PlainSlot) → slice_get ss i ≡ Some s → is_in s.id (numbers_of ss) ≡ true
number_in_list [] i s e = absurd (apart s e)
number_in_list (x ∷ ss) zero s e = ap (λ b. b || is_in s.id (numbers_of ss)) (eq-eqb s.id x.id (ap (λ (y : PlainSlot). y.id) (sym (same_Some x s e))))
number_in_list (x ∷ ss) (suc i) s e = later s.id x.id (numbers_of ss) (number_in_list ss i s e)

pub live_of : (ss : List PlainSlot) (i : ℕ) (s : PlainSlot) → AreDistinct (numbers_of ss) → slice_get ss i ≡ Some s → s.gone ≡ None → live_slot s.id ss ≡ Some i
live_of [] i s d e g = absurd (apart s e)
live_of (x ∷ ss) zero s d e g =
    let q : x ≡ s = same_Some x s e in
    picks (eqb x.id s.id) (cond (is_live x) (Some 0) None) (option_map suc (live_slot s.id ss)) (eq-eqb x.id s.id (ap (λ (y : PlainSlot). y.id) q))
    ∙ picks (is_live x) (Some 0) None (ap is_live q ∙ live s.gone g)
  where
    live : (o : Option ℕ) → o ≡ None → is_live (record s { gone = o }) ≡ true
    live None h = refl
    live (Some r) h = absurd (apart r (sym h))
live_of (x ∷ ss) (suc i) s d e g =
    skips (eqb x.id s.id) (cond (is_live x) (Some 0) None) (option_map suc (live_slot s.id ss)) other ∙ ap (option_map suc) (live_of ss i s d.1 e g)
  where
    other : eqb x.id s.id ≡ false
    other = by (eqb x.id s.id) refl
      where
        by : (t : Bool) → eqb x.id s.id ≡ t → eqb x.id s.id ≡ false
        by true h = absurd (true≢false (sym (number_in_list ss i s e) ∙ ap (λ n. is_in n (numbers_of ss)) (sym (eqb-true x.id s.id h)) ∙ d.0))
        by false h = h

pub slot_there : (ss : List PlainSlot) (k : ℕ) → k < length ss → slice_get ss k ≡ Some (slot_at ss k)
slot_there [] k lt = absurd (omega arith)
slot_there (s ∷ ss) zero lt = refl
slot_there (s ∷ ss) (suc k) lt = slot_there ss k (omega arith)

slot_at_is : (ss : List PlainSlot) (i : ℕ) (s : PlainSlot) → slice_get ss i ≡ Some s → slot_at ss i ≡ s
slot_at_is [] i s e = absurd (apart s e)
slot_at_is (x ∷ ss) zero s e = same_Some x s e
slot_at_is (x ∷ ss) (suc i) s e = slot_at_is ss i s e

pub home_at : (ls : List PlainList) (k : ℕ) (p : Place) → slice_get (homes_of ls) k ≡ Some p → k < length ls
home_at ls k p e = omega (arith, get_within (homes_of ls) k p e, length-map ls (λ (l : PlainList). l.home))

module _ (args : List Kind) (ss : List PlainSlot) (xs ls : PlainUses) (v : Flat) (h : Shown args ss xs ls v) where
  pub inputs_long : length xs.lists ≡ length ss
  inputs_long = sym (length-map xs.lists (λ (l : PlainList). l.home)) ∙ ap length h.is.inputs.homes ∙ length-map ss (λ (s : PlainSlot). s.home)

  pub sees : Sees xs.lists ls.lists ss args v
  sees = record { long = inputs_long; once = h.is.once; nodes = h.nodes; body = h.body }

  ids_of : ids v ≡ map (id_at ss) (live_from 0 ss)
  ids_of = ap ids_seen h.nodes ∙ ids_are xs.lists ls.lists ss inputs_long

  pub ends_are : pair_of (option_map (id_at ss) (first_or None (live_from 0 ss))) (option_map (id_at ss) (last_or None (live_from 0 ss))) ≡ ends_of v
  ends_are =
      sym ((λ i. pair_of (first_or None (ids_of i)) (last_or None (ids_of i)))
      ∙ (λ i. pair_of (first_of_map (id_at ss) (live_from 0 ss) i) (last_of_map (id_at ss) (live_from 0 ss) i)))

  -- what is told of the node of a slot
  abbrev pub told : ℕ → View
  told at = record {
    op = (slot_at ss at).op;
    inputs = origins_at xs.lists at;
    outputs = length (slot_at ss at).outputs;
    regions = length (slot_at ss at).regions;
    home = (slot_at ss at).home;
    before = option_map (id_at ss) (before_in None at (live_from 0 ss));
    after = option_map (id_at ss) (after_in at (live_from 0 ss));
  }

  pub view_some : (n at : ℕ) → Some at ≡ live_slot n ss → view_of n v ≡ Some (told at)
  view_some n at e =
      let s = slot_is n ss at (sym e) in
      let f : found n v.nodes ≡ Some (seen_at xs.lists ls.lists ss at) = node_is xs.lists ls.lists ss args v sees n ∙ ap (option_map (seen_at xs.lists ls.lists ss)) (sym e) in
      let number : n ≡ id_at ss at = sym s.own in
      let a = ids_apart ss at h.is.once s.inside in
      let b : node_before n v ≡ option_map (id_at ss) (before_in None at (live_from 0 ss)) = (λ i. before_in None (number i) (ids_of i)) ∙ before_of_map (id_at ss) at (live_from 0 ss) a in
      let c : node_after n v ≡ option_map (id_at ss) (after_in at (live_from 0 ss)) = (λ i. after_in (number i) (ids_of i)) ∙ after_of_map (id_at ss) at (live_from 0 ss) a in
      let r = regions_long ls.lists (slot_at ss at).results (slot_at ss at).regions in
      ap (option_map (λ (x : FlatNode). record {
        op = x.op;
        inputs = x.inputs;
        outputs = length x.outputs;
        regions = length x.regions;
        home = x.home;
        before = node_before n v;
        after = node_after n v;
      })) f
      ∙ (λ i. Some (record {
        op = (slot_at ss at).op;
        inputs = origins_at xs.lists at;
        outputs = length (slot_at ss at).outputs;
        regions = r i;
        home = (slot_at ss at).home;
        before = b i;
        after = c i;
      }))

  pub view_none : (n : ℕ) → None ≡ live_slot n ss → view_of n v ≡ None
  view_none n e =
      ap (option_map (λ (x : FlatNode). record {
        op = x.op;
        inputs = x.inputs;
        outputs = length x.outputs;
        regions = length x.regions;
        home = x.home;
        before = node_before n v;
        after = node_after n v;
      })) (node_is xs.lists ls.lists ss args v sees n ∙ ap (option_map (seen_at xs.lists ls.lists ss)) (sym e))

  -- a result
  pub result_some : (p : Place) (k j : ℕ) → Some j ≡ results_number p.node p.region ss → result_at p k v ≡ slice_get (origins_at ls.lists j) k
  result_some p k j e = result_is xs.lists ls.lists ss args v sees p k ∙ ap (option_and_then (λ i. slice_get (origins_at ls.lists i) k)) (sym e)

  pub list_in : (p : Place) (k j : ℕ) → Some j ≡ results_number p.node p.region ss → IsSome (result_at p k v) → (j < length ls.lists) × (k < length (origins_at ls.lists j))
  list_in p k j e r =
      let P : Option Origin → Type 0 = λ o. IsSome o in
      let there : IsSome (slice_get (origins_at ls.lists j) k) = subst P (result_some p k j e) r in
      (list_there ls.lists j k there, some_within (origins_at ls.lists j) k there)

  pub no_result : (p : Place) (k : ℕ) → None ≡ results_number p.node p.region ss → IsSome (result_at p k v) → ⊥
  no_result p k e r =
      let P : Option Origin → Type 0 = λ o. IsSome o in
      true≢false (sym (subst P (result_is xs.lists ls.lists ss args v sees p k ∙ ap (option_and_then (λ i. slice_get (origins_at ls.lists i) k)) (sym e)) r))

  -- the kind of an origin
  pub kind_same : (p : Place) (o : Origin) → kind_in p o v ≡ kind_at args p o ss
  kind_same p o = kind_is xs.lists ls.lists ss args v sees p o

  pub has_kind : (p : Place) (o : Origin) → IsSome (kind_in p o v) → IsSome (kind_at args p o ss)
  has_kind p o k = let P : Option Kind → Type 0 = λ x. IsSome x in subst P (kind_same p o) k

  pub no_kind : (p : Place) (o : Origin) → None ≡ kind_at args p o ss → IsSome (kind_in p o v) → ⊥
  no_kind p o e k = let P : Option Kind → Type 0 = λ x. IsSome x in true≢false (sym (subst P (kind_same p o ∙ sym e) k))

  -- how often an origin is used
  pub uses_inputs : (p : Place) (o : Origin) → uses_of (use_in p o) xs.lists ≡ input_uses p o v.nodes
  uses_inputs p o = input_uses_are p o xs.lists ls.lists ss h.is.inputs ∙ ap (input_uses p o) (sym h.nodes)

  -- the list of the results of a region that is there has its place
  pub placed : (p : Place) (j : ℕ) → Some j ≡ results_number p.node p.region ss → slice_get (homes_of ls.lists) j ≡ Some p
  placed p j e = by_node p.node p.region e
    where
      by_body : (r : ℕ) (t : Bool) → eqb r 0 ≡ t → Some j ≡ cond t (Some 0) None → slice_get (homes_of ls.lists) j ≡ Some (record { node = None; region = r })
      by_body r true q e = ap (slice_get (homes_of ls.lists)) (same_Some j 0 e) ∙ h.is.results.body ∙ ap (λ k. Some (record { node = None; region = k })) (sym (eqb-true r 0 q))
      by_body r false q e = absurd (apart j (sym e))

      by_index : (n r i : ℕ) → live_slot n ss ≡ Some i → (t : Bool) → ltb r (length (slot_at ss i).regions) ≡ t → Some j ≡ cond t (Some ((slot_at ss i).results + r)) None
          → slice_get (homes_of ls.lists) j ≡ Some (record { node = Some n; region = r })
      by_index n r i l true q e =
          let s = slot_is n ss i l in
          ap (slice_get (homes_of ls.lists)) (same_Some j ((slot_at ss i).results + r) e)
          ∙ h.is.results.slots i r (slot_at ss i) (slot_there ss i s.inside) (ltb-true r (length (slot_at ss i).regions) q)
          ∙ ap (λ m. Some (record { node = Some m; region = r })) s.own
      by_index n r i l false q e = absurd (apart j (sym e))

      by_slot : (n r : ℕ) (o : Option ℕ) → live_slot n ss ≡ o → Some j ≡ option_and_then (λ i. number_in (slot_at ss i) r) o → slice_get (homes_of ls.lists) j ≡ Some (record { node = Some n; region = r })
      by_slot n r None l e = absurd (apart j (sym e))
      by_slot n r (Some i) l e = by_index n r i l (ltb r (length (slot_at ss i).regions)) refl e

      by_node : (o : Option ℕ) (r : ℕ) → Some j ≡ results_number o r ss → slice_get (homes_of ls.lists) j ≡ Some (record { node = o; region = r })
      by_node None r e = by_body r (eqb r 0) refl e
      by_node (Some n) r e = by_slot n r (live_slot n ss) refl e

  -- a list whose region is not there is empty
  pub emptied : (p : Place) (k : ℕ) → None ≡ results_number p.node p.region ss → slice_get (homes_of ls.lists) k ≡ Some p → origins_at ls.lists k ≡ []
  emptied p k e there = by (h.is.results.only k (home_at ls.lists k p there))
    where
      no_body : p ≡ body_place → ⊥
      no_body q = apart 0 (e ∙ ap (λ (r : Place). results_number r.node r.region ss) q)

      live : (s : IsOfSlot k ss) → p ≡ place_in s.slot.id s.region → s.slot.gone ≡ None → ⊥
      live s q g =
          apart (s.slot.results + s.region)
          (e ∙ ap (λ (r : Place). results_number r.node r.region ss) q ∙ ap (option_and_then (λ i. number_in (slot_at ss i) s.region)) (live_of ss s.at s.slot h.is.once s.there g)
          ∙ ap (λ (t : PlainSlot). number_in t s.region) (slot_at_is ss s.at s.slot s.there)
          ∙ picks (ltb s.region (length s.slot.regions)) (Some (s.slot.results + s.region)) None (lt-ltb s.region (length s.slot.regions) s.inside))

      by_gone : (s : IsOfSlot k ss) → p ≡ place_in s.slot.id s.region → (o : Option ℕ) → s.slot.gone ≡ o → origins_at ls.lists k ≡ []
      by_gone s q None g = absurd (live s q g)
      by_gone s q (Some r) g = ap (origins_at ls.lists) s.own ∙ h.is.results.left s.at s.region r s.slot s.there g s.inside

      by : (k ≡ 0) ⊎ IsOfSlot k ss → origins_at ls.lists k ≡ []
      by (inl z) = absurd (no_body (same_Some p body_place (sym there ∙ ap (slice_get (homes_of ls.lists)) z ∙ h.is.results.body)))
      by (inr s) = by_gone s (same_Some p (place_in s.slot.id s.region) (sym there ∙ ap (slice_get (homes_of ls.lists)) s.own ∙ h.is.results.slots s.at s.region s.slot s.there s.inside)) s.slot.gone refl

  pub uses_results : (p : Place) (o : Origin) → uses_of (use_in p o) ls.lists ≡ result_uses o (region_at p v)
  uses_results p o = by (args_of args p.node p.region ss) (results_number p.node p.region ss) refl (agrees xs.lists ls.lists ss args v sees p.node p.region) ∙ ap (result_uses o) (sym (region_is xs.lists ls.lists ss args v sees p))
    where
      by : (u : Option (List Kind)) (r : Option ℕ) → results_number p.node p.region ss ≡ r → agree xs.lists ls.lists ss args v sees u r → uses_of (use_in p o) ls.lists ≡ result_uses o (both_of xs.lists ls.lists ss args v sees u r)
      by None None e a = no_list_uses p o ls.lists (λ k q. emptied p k (sym e) q)
      by None (Some j) e a = absurd a
      by (Some ks) None e a = absurd a
      by (Some ks) (Some j) e a = let q = placed p j (sym e) in one_list_uses p o ls.lists j q (λ k z. h.is.results.apart k j p z q)

  pub uses_counted : (p : Place) (o : Origin) (n a b : ℕ) → a ≡ uses_of (use_in p o) xs.lists → b ≡ uses_of (use_in p o) ls.lists → n ≡ a + b → n ≡ uses_in p o v
  uses_counted p o n a b e f g = g ∙ (λ i. (e ∙ uses_inputs p o) i + (f ∙ uses_results p o) i)
