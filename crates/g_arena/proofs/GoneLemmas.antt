-- One node goes: its slot is marked, and its lists are emptied. What stays of the index, and what is seen.
use Rattle.std.proofs.Common.{◌≡◌, ℕ, zero, suc, ◌+◌, ◌<◌, Bool, true, false, ◌||◌, cond, eqb, Option, Some, None, option_map, List, [], ◌∷◌, ◌⊎◌, inl, inr, length, map, set, refl, ap, sym, ◌∙◌, subst, arith, true≢false}
use Rattle.std.specs.Prelude.{IsSome, is_none, option_and_then, slice_get}
use Rattle.std.proofs.lemmas.Bool.{eqb-true, eqb-false, eq-eqb, ne_eqb}
use Rattle.std.proofs.lemmas.List.{get_or-set_same, get_or-set_other, length-map}
use Rattle.std.proofs.lemmas.Option.{same_Some}
use Rattle.cell_lists.specs.Lists.{AreDistinct}
use Rattle.g_graph.specs.declared.op.Kind.{Kind}
use Rattle.g_graph.specs.declared.op.Origin.{Origin}
use Rattle.g_graph.specs.declared.op.Origin.TheVariants.{Arg, Out}
use Rattle.g_arena_def.specs.declared.place.Place.{Place}
use Rattle.g_arena_def.specs.Flat.{place_in}
use Rattle.g_arena_def.specs.Edits.{at_with}
use Rattle.g_arena_use.specs.Lists.{PlainList, PlainUses, origins_at, emptied}
use Rattle.g_arena_use.specs.Plain.{PlainSlot, no_slot, is_live, slot_at, id_at, numbers_of, live_from, live_slot, args_of, output_in, kind_at, number_index, is_index, went_at, node_went, slot_gone}
use Rattle.g_arena_use.specs.Seen.{homes_of}
use Rattle.g_arena_use.specs.Indexed.{IsOfSlot, AreIndexed}
use Rattle.g_arena_use.proofs.SeenLemmas.{apart, same_slot}
use Rattle.g_arena_use.proofs.ResultLemmas.{origins_same}
use Rattle.g_arena_use.proofs.ReadLemmas.{slot_there}
use Rattle.g_arena_use.proofs.ChangeLemmas.{AreKept, kept_same, edited_kept}
use Rattle.g_arena.specs.Gone.{AreGone, cleared}

-- ---- lists that lose their origins

kept_more : (a b c : List PlainList) → AreKept a b → AreKept b c → AreKept a c
kept_more a b c p q = record { homes = q.homes ∙ p.homes; empty = λ k e. q.empty k (p.empty k e) }

pub cleared_kept : (first count : ℕ) (ls : List PlainList) → AreKept ls (cleared first count ls)
cleared_kept first zero ls = kept_same ls
cleared_kept first (suc n) ls = kept_more ls (cleared first n ls) (cleared first (suc n) ls) (cleared_kept first n ls) (edited_kept (λ os. []) (first + n) (cleared first n ls) refl)

pub cleared_long : (first count : ℕ) (ls : List PlainList) → length (cleared first count ls) ≡ length ls
cleared_long first count ls =
    sym (length-map (cleared first count ls) (λ (l : PlainList). l.home)) ∙ ap length (cleared_kept first count ls).homes ∙ length-map ls (λ (l : PlainList). l.home)

pub emptied_at : (j : ℕ) (ls : List PlainList) → origins_at (at_with j emptied ls) j ≡ []
emptied_at zero [] = refl
emptied_at (suc j) [] = refl
emptied_at zero (l ∷ ls) = refl
emptied_at (suc j) (l ∷ ls) = emptied_at j ls

pub cleared_none : (first count k : ℕ) (ls : List PlainList) → k < count → origins_at (cleared first count ls) (first + k) ≡ []
cleared_none first zero k ls lt = absurd (omega (arith, lt))
cleared_none first (suc n) k ls lt = by (eqb k n) refl (cleared_none first n k ls)
  where
    by : (t : Bool) → eqb k n ≡ t → (k < n → origins_at (cleared first n ls) (first + k) ≡ []) → origins_at (cleared first (suc n) ls) (first + k) ≡ []
    by true e go = ap (λ m. origins_at (cleared first (suc n) ls) (first + m)) (eqb-true k n e) ∙ emptied_at (first + n) (cleared first n ls)
    by false e go =
        let ne = eqb-false k n e in
        (edited_kept (λ os. []) (first + n) (cleared first n ls) refl).empty (first + k) (go (omega (arith, lt, ne)))

pub cleared_other : (first count j : ℕ) (ls : List PlainList) → ((k : ℕ) → k < count → first + k ≡ j → ⊥) → origins_at (cleared first count ls) j ≡ origins_at ls j
cleared_other first zero j ls h = refl
cleared_other first (suc n) j ls h =
    origins_same (λ os. []) (first + n) j (cleared first n ls) (h n (omega arith)) ∙ cleared_other first n j ls (λ k lt e. h k (omega (arith, lt)) e)

-- ---- a slot that is marked

module _ (ss : List PlainSlot) (at : ℕ) (t : PlainSlot) where
  pub marked_here : at < length ss → slot_at (set ss at t) at ≡ t
  marked_here lt = get_or-set_same ss at t no_slot lt

  pub marked_other : (k : ℕ) → (eqb k at ≡ false) → slot_at (set ss at t) k ≡ slot_at ss k
  marked_other k e = get_or-set_other ss at k t no_slot (eqb-false k at e)

-- no slot is marked or loses its mark
gone_same : (ss : List PlainSlot) (at : ℕ) (t : PlainSlot) (k : ℕ) → t.gone ≡ (slot_at ss at).gone → (slot_at (set ss at t) k).gone ≡ (slot_at ss k).gone
gone_same [] at t k e = refl
gone_same (z ∷ ss) zero t zero e = e
gone_same (z ∷ ss) zero t (suc k) e = refl
gone_same (z ∷ ss) (suc at) t zero e = refl
gone_same (z ∷ ss) (suc at) t (suc k) e = gone_same ss at t k e

pub gone_kept : (ss : List PlainSlot) (at : ℕ) (t : PlainSlot) → t.gone ≡ (slot_at ss at).gone → AreGone ss → AreGone (set ss at t)
gone_kept ss at t e h k r g = ap is_none (gone_same ss at t r e) ∙ h k r (sym (gone_same ss at t k e) ∙ g)

-- what stands in the list then stood there, or is the slot
pub marked_back : (ss : List PlainSlot) (at : ℕ) (t : PlainSlot) (i : ℕ) (s : PlainSlot) → slice_get (set ss at t) i ≡ Some s → ((i ≡ at) × (at < length ss) × (s ≡ t)) ⊎ (slice_get ss i ≡ Some s)
marked_back [] at t i s q = absurd (apart s q)
marked_back (z ∷ ss) zero t zero s q = inl (refl, omega arith, sym (same_Some t s q))
marked_back (z ∷ ss) zero t (suc i) s q = inr q
marked_back (z ∷ ss) (suc at) t zero s q = inr q
marked_back (z ∷ ss) (suc at) t (suc i) s q =
    elim (marked_back ss at t i s q) [
      | inl e ↦ inl (ap suc e.0, omega (arith, e.1), e.2)
      | inr e ↦ inr e
    ]

module _ (root : ℕ) where
  abbrev pub marked : List PlainSlot → ℕ → List PlainSlot
  marked ss at = set ss at (slot_gone root (slot_at ss at))

  marked_forth : (ss : List PlainSlot) (at i : ℕ) (s : PlainSlot) → slice_get ss i ≡ Some s → (g : Option ℕ) × (slice_get (marked ss at) i ≡ Some (record s { gone = g }))
  marked_forth [] at i s q = absurd (apart s q)
  marked_forth (z ∷ ss) zero zero s q = (Some root, ap (λ (x : PlainSlot). Some (slot_gone root x)) (same_Some z s q))
  marked_forth (z ∷ ss) zero (suc i) s q = (s.gone, q)
  marked_forth (z ∷ ss) (suc at) zero s q = (s.gone, q)
  marked_forth (z ∷ ss) (suc at) (suc i) s q = marked_forth ss at i s q

  pub marked_numbers : (ss : List PlainSlot) (at : ℕ) → numbers_of (marked ss at) ≡ numbers_of ss
  marked_numbers [] at = refl
  marked_numbers (z ∷ ss) zero = refl
  marked_numbers (z ∷ ss) (suc at) = ap (λ ns. z.id ∷ ns) (marked_numbers ss at)

  marked_homes : (ss : List PlainSlot) (at : ℕ) → map (λ (s : PlainSlot). s.home) (marked ss at) ≡ map (λ (s : PlainSlot). s.home) ss
  marked_homes [] at = refl
  marked_homes (z ∷ ss) zero = refl
  marked_homes (z ∷ ss) (suc at) = ap (λ ps. z.home ∷ ps) (marked_homes ss at)

  -- but for the mark each slot stays
  pub marked_same : (ss : List PlainSlot) (at k : ℕ) → slot_at (marked ss at) k ≡ record (slot_at ss k) { gone = (slot_at (marked ss at) k).gone }
  marked_same [] at k = refl
  marked_same (z ∷ ss) zero zero = refl
  marked_same (z ∷ ss) zero (suc k) = refl
  marked_same (z ∷ ss) (suc at) zero = refl
  marked_same (z ∷ ss) (suc at) (suc k) = marked_same ss at k

  marked_index : (ss : List PlainSlot) (at n : ℕ) → number_index n (marked ss at) ≡ number_index n ss
  marked_index [] at n = refl
  marked_index (z ∷ ss) zero n = refl
  marked_index (z ∷ ss) (suc at) n = ap (λ o. cond (eqb z.id n) (Some 0) (option_map suc o)) (marked_index ss at n)

  one_more : (o : Option ℕ) (k : ℕ) → option_map suc o ≡ Some k → (j : ℕ) × (o ≡ Some j) × (k ≡ suc j)
  one_more None k h = absurd (apart k h)
  one_more (Some j) k h = (j, refl, sym (same_Some _ _ h))

  -- no node comes
  marked_live : (ss : List PlainSlot) (at n i : ℕ) → live_slot n (marked ss at) ≡ Some i → live_slot n ss ≡ Some i
  marked_live [] at n i h = h
  marked_live (z ∷ ss) zero n i h = by (eqb z.id n) h
    where
      by : (t : Bool) → cond t None (option_map suc (live_slot n ss)) ≡ Some i → cond t (cond (is_live z) (Some 0) None) (option_map suc (live_slot n ss)) ≡ Some i
      by true g = absurd (apart i g)
      by false g = g
  marked_live (z ∷ ss) (suc at) n i h = by (eqb z.id n) h (λ j g. marked_live ss at n j g)
    where
      by : (t : Bool) → cond t (cond (is_live z) (Some 0) None) (option_map suc (live_slot n (marked ss at))) ≡ Some i → ((j : ℕ) → live_slot n (marked ss at) ≡ Some j → live_slot n ss ≡ Some j)
          → cond t (cond (is_live z) (Some 0) None) (option_map suc (live_slot n ss)) ≡ Some i
      by true g go = g
      by false g go = let m = one_more (live_slot n (marked ss at)) i g in ap (option_map suc) (go m.0 m.1) ∙ ap Some (sym m.2)

  no_kind_more : (args : List Kind) (ss : List PlainSlot) (at : ℕ) (p : Place) (o : Origin) → IsSome (kind_at args p o (marked ss at)) → IsSome (kind_at args p o ss)
  no_kind_more args ss at p (Out n q) k = by (live_slot n (marked ss at)) refl k
    where
      by : (o : Option ℕ) → live_slot n (marked ss at) ≡ o → IsSome (option_and_then (λ i. output_in p q (slot_at (marked ss at) i)) o) → IsSome (option_and_then (λ i. output_in p q (slot_at ss i)) (live_slot n ss))
      by None e g = absurd (true≢false (sym g))
      by (Some i) e g =
          let P : PlainSlot → Type 0 = λ s. IsSome (output_in p q s) in
          let Q : Option ℕ → Type 0 = λ o. IsSome (option_and_then (λ j. output_in p q (slot_at ss j)) o) in
          subst Q (sym (marked_live ss at n i e)) (subst P (marked_same ss at i) g)
  no_kind_more args ss at p (Arg q) k = by_node p.node p.region k
    where
      by : (n r : ℕ) (o : Option ℕ) → live_slot n (marked ss at) ≡ o → IsSome (option_and_then (λ (ks : List Kind). slice_get ks q) (option_and_then (λ i. slice_get (slot_at (marked ss at) i).regions r) o))
          → IsSome (option_and_then (λ (ks : List Kind). slice_get ks q) (option_and_then (λ i. slice_get (slot_at ss i).regions r) (live_slot n ss)))
      by n r None e g = absurd (true≢false (sym g))
      by n r (Some i) e g =
          let P : PlainSlot → Type 0 = λ s. IsSome (option_and_then (λ (ks : List Kind). slice_get ks q) (slice_get s.regions r)) in
          let Q : Option ℕ → Type 0 = λ o. IsSome (option_and_then (λ (ks : List Kind). slice_get ks q) (option_and_then (λ j. slice_get (slot_at ss j).regions r) o)) in
          subst Q (sym (marked_live ss at n i e)) (subst P (marked_same ss at i) g)

      by_node : (o : Option ℕ) (r : ℕ) → IsSome (option_and_then (λ (ks : List Kind). slice_get ks q) (args_of args o r (marked ss at))) → IsSome (option_and_then (λ (ks : List Kind). slice_get ks q) (args_of args o r ss))
      by_node None r g = g
      by_node (Some n) r g = by n r (live_slot n (marked ss at)) refl g

  -- a slot whose lists are empty may be marked
  pub marked_indexed : (args : List Kind) (ss : List PlainSlot) (xs ls : PlainUses) (at : ℕ) → AreIndexed args ss xs ls → origins_at xs.lists at ≡ []
      → ((k : ℕ) → k < length (slot_at ss at).regions → origins_at ls.lists ((slot_at ss at).results + k) ≡ []) → AreIndexed args (marked ss at) xs ls
  marked_indexed args ss xs ls at a none empty = record {
    once = (let P : List ℕ → Type 0 = λ ns. AreDistinct ns in subst P (sym (marked_numbers ss at)) a.once);
    homes = λ i s q n. by_home i s n (marked_back ss at (slot_gone root (slot_at ss at)) i s q);
    inputs = record {
      homes = a.inputs.homes ∙ sym (marked_homes ss at);
      left = λ k r g. by_input k r g (eqb k at) refl;
    };
    results = record {
      body = a.results.body;
      slots = λ i k s q lt. by_slot i k s lt (marked_back ss at (slot_gone root (slot_at ss at)) i s q);
      only = λ k lt. by_only k (a.results.only k lt);
      apart = a.results.apart;
      left = λ i k r s q g lt. by_left i k r s g lt (marked_back ss at (slot_gone root (slot_at ss at)) i s q);
    };
    named_inputs = λ p o k. a.named_inputs p o (no_kind_more args ss at p o k);
    named_results = λ p o k. a.named_results p o (no_kind_more args ss at p o k);
    short = a.short;
    room = a.room;
  }
    where
      by_home : (i : ℕ) (s : PlainSlot) → s.home.node ≡ None → ((i ≡ at) × (at < length ss) × (s ≡ (slot_gone root (slot_at ss at)))) ⊎ (slice_get ss i ≡ Some s) → s.home.region ≡ 0
      by_home i s n (inl e) =
          ap (λ (x : PlainSlot). x.home.region) e.2 ∙ a.homes at (slot_at ss at) (slot_there ss at e.1) (sym (ap (λ (x : PlainSlot). x.home.node) e.2) ∙ n)
      by_home i s n (inr e) = a.homes i s e n

      by_input : (k r : ℕ) → (slot_at (marked ss at) k).gone ≡ Some r → (b : Bool) → eqb k at ≡ b → origins_at xs.lists k ≡ []
      by_input k r g true e = ap (origins_at xs.lists) (eqb-true k at e) ∙ none
      by_input k r g false e = a.inputs.left k r (sym (ap (λ (x : PlainSlot). x.gone) (marked_other ss at (slot_gone root (slot_at ss at)) k e)) ∙ g)

      by_slot : (i k : ℕ) (s : PlainSlot) → k < length s.regions → ((i ≡ at) × (at < length ss) × (s ≡ (slot_gone root (slot_at ss at)))) ⊎ (slice_get ss i ≡ Some s) → slice_get (homes_of ls.lists) (s.results + k) ≡ Some (place_in s.id k)
      by_slot i k s lt (inl e) =
          let few : k < length (slot_at ss at).regions = omega (arith, lt, ap (λ (x : PlainSlot). length x.regions) e.2) in
          ap (λ (x : PlainSlot). slice_get (homes_of ls.lists) (x.results + k)) e.2
          ∙ a.results.slots at k (slot_at ss at) (slot_there ss at e.1) few
          ∙ ap (λ (x : PlainSlot). Some (place_in x.id k)) (sym e.2)
      by_slot i k s lt (inr e) = a.results.slots i k s e lt

      by_only : (k : ℕ) → (k ≡ 0) ⊎ IsOfSlot k ss → (k ≡ 0) ⊎ IsOfSlot k (marked ss at)
      by_only k (inl z) = inl z
      by_only k (inr o) =
          let f = marked_forth ss at o.at o.slot o.there in
          inr (record { at = o.at; slot = record o.slot { gone = f.0 }; region = o.region; there = f.1; inside = o.inside; own = o.own })

      by_left : (i k r : ℕ) (s : PlainSlot) → s.gone ≡ Some r → k < length s.regions → ((i ≡ at) × (at < length ss) × (s ≡ (slot_gone root (slot_at ss at)))) ⊎ (slice_get ss i ≡ Some s) → origins_at ls.lists (s.results + k) ≡ []
      by_left i k r s g lt (inl e) =
          ap (λ (x : PlainSlot). origins_at ls.lists (x.results + k)) e.2 ∙ empty k (omega (arith, lt, ap (λ (x : PlainSlot). length x.regions) e.2))
      by_left i k r s g lt (inr e) = a.results.left i k r s e g lt

  -- ---- the nodes that went

  number_in : (ss : List PlainSlot) (n k : ℕ) → number_index n ss ≡ Some k → (k < length ss) × (id_at ss k ≡ n)
  number_in [] n k h = absurd (apart k h)
  number_in (z ∷ ss) n k h = by (eqb z.id n) refl h (λ j g. number_in ss n j g)
    where
      by : (t : Bool) → eqb z.id n ≡ t → cond t (Some 0) (option_map suc (number_index n ss)) ≡ Some k → ((j : ℕ) → number_index n ss ≡ Some j → (j < length ss) × (id_at ss j ≡ n))
          → (k < length (z ∷ ss)) × (id_at (z ∷ ss) k ≡ n)
      by true e g go =
          let P : ℕ → Type 0 = λ j. (j < length (z ∷ ss)) × (id_at (z ∷ ss) j ≡ n) in
          subst P (same_Some 0 k g) (omega arith, eqb-true z.id n e)
      by false e g go =
          let m = one_more (number_index n ss) k g in
          let r = go m.0 m.1 in
          let P : ℕ → Type 0 = λ j. (j < length (z ∷ ss)) × (id_at (z ∷ ss) j ≡ n) in
          subst P (sym m.2) (omega (arith, r.0), r.1)

  number_there : (ss : List PlainSlot) (k : ℕ) → k < length ss → (j : ℕ) × (number_index (id_at ss k) ss ≡ Some j)
  number_there [] k lt = absurd (omega (arith, lt))
  number_there (z ∷ ss) zero lt = (0, ap (λ b. cond b (Some 0) (option_map suc (number_index z.id ss))) (eq-eqb z.id z.id refl))
  number_there (z ∷ ss) (suc k) lt = by (number_there ss k (omega (arith, lt))) (eqb z.id (id_at ss k))
    where
      by : ((j : ℕ) × (number_index (id_at ss k) ss ≡ Some j)) → (t : Bool) → (j : ℕ) × (cond t (Some 0) (option_map suc (number_index (id_at ss k) ss)) ≡ Some j)
      by r true = (0, refl)
      by r false = (suc r.0, ap (option_map suc) r.1)

  pub number_is : (ss : List PlainSlot) (k : ℕ) → AreDistinct (numbers_of ss) → k < length ss → number_index (id_at ss k) ss ≡ Some k
  number_is ss k d lt =
      let j = number_there ss k lt in
      let r = number_in ss (id_at ss k) j.0 j.1 in
      j.1 ∙ ap Some (same_slot ss j.0 k d r.0 lt r.1)

  pub went_more : (ss : List PlainSlot) (at n : ℕ) → AreDistinct (numbers_of ss) → at < length ss → node_went root (marked ss at) (Some n) ≡ (eqb n (id_at ss at) || node_went root ss (Some n))
  went_more ss at n d lt = ap (went_at root (marked ss at)) (marked_index ss at n) ∙ by (eqb n (id_at ss at)) refl
    where
      own : went_at root (marked ss at) (Some at) ≡ true
      own = ap (λ (s : PlainSlot). is_index root s.gone) (marked_here ss at (slot_gone root (slot_at ss at)) lt) ∙ eq-eqb root root refl

      other : (o : Option ℕ) → number_index n ss ≡ o → eqb n (id_at ss at) ≡ false → went_at root (marked ss at) o ≡ went_at root ss o
      other None f e = refl
      other (Some k) f e = ap (λ (s : PlainSlot). is_index root s.gone) (marked_other ss at (slot_gone root (slot_at ss at)) k (ne_eqb k at (λ z. eqb-false n (id_at ss at) e (sym (number_in ss n k f).1 ∙ ap (id_at ss) z))))

      by : (t : Bool) → eqb n (id_at ss at) ≡ t → went_at root (marked ss at) (number_index n ss) ≡ (t || went_at root ss (number_index n ss))
      by true e = ap (went_at root (marked ss at)) (ap (λ m. number_index m ss) (eqb-true n (id_at ss at) e) ∙ number_is ss at d lt) ∙ own
      by false e = other (number_index n ss) refl e

  -- with a node that is there none went
  pub none_went : (ss : List PlainSlot) (o : Option ℕ) → AreGone ss → is_live (slot_at ss root) ≡ true → false ≡ node_went root ss o
  none_went ss None h l = refl
  none_went ss (Some n) h l = by (number_index n ss)
    where
      by_root : (k r : ℕ) → (slot_at ss k).gone ≡ Some r → (t : Bool) → eqb r root ≡ t → false ≡ t
      by_root k r g true e = absurd (true≢false (sym l ∙ h k root (g ∙ ap Some (eqb-true r root e))))
      by_root k r g false e = refl

      by_gone : (k : ℕ) (o : Option ℕ) → (slot_at ss k).gone ≡ o → false ≡ is_index root o
      by_gone k None g = refl
      by_gone k (Some r) g = by_root k r g (eqb r root) refl

      by : (o : Option ℕ) → false ≡ went_at root ss o
      by None = refl
      by (Some k) = by_gone k (slot_at ss k).gone refl

  marked_dead : (ss : List PlainSlot) (at : ℕ) → at < length ss → is_live (slot_at (marked ss at) at) ≡ false
  marked_dead ss at lt = ap is_live (marked_here ss at (slot_gone root (slot_at ss at)) lt)

  pub marked_gone : (ss : List PlainSlot) (at : ℕ) → AreGone ss → at < length ss → is_live (slot_at (marked ss at) root) ≡ false → AreGone (marked ss at)
  marked_gone ss at h lt dead k r g = by (eqb k at) refl
    where
      old : is_live (slot_at ss r) ≡ false → (b : Bool) → eqb r at ≡ b → is_live (slot_at (marked ss at) r) ≡ false
      old e true q = ap (λ j. is_live (slot_at (marked ss at) j)) (eqb-true r at q) ∙ marked_dead ss at lt
      old e false q = ap is_live (marked_other ss at (slot_gone root (slot_at ss at)) r q) ∙ e

      by : (t : Bool) → eqb k at ≡ t → is_live (slot_at (marked ss at) r) ≡ false
      by true e =
          let z : Some root ≡ Some r = sym (ap (λ (s : PlainSlot). s.gone) (marked_here ss at (slot_gone root (slot_at ss at)) lt)) ∙ ap (λ j. (slot_at (marked ss at) j).gone) (sym (eqb-true k at e)) ∙ g in
          ap (λ j. is_live (slot_at (marked ss at) j)) (sym (same_Some root r z)) ∙ dead
      by false e = old (h k r (sym (ap (λ (s : PlainSlot). s.gone) (marked_other ss at (slot_gone root (slot_at ss at)) k e)) ∙ g)) (eqb r at) refl

  live_less : (ss : List PlainSlot) (at c : ℕ) → at < length ss → is_live (slot_at ss at) ≡ true → length (live_from c (marked ss at)) < length (live_from c ss)
  live_less [] at c lt l = absurd (omega (arith, lt))
  live_less (z ∷ ss) zero c lt l = omega (arith, ap (λ b. length (cond b (c ∷ live_from (suc c) ss) (live_from (suc c) ss))) l)
  live_less (z ∷ ss) (suc at) c lt l = by (is_live z) (live_less ss at (suc c) (omega (arith, lt)) l)
    where
      by : (t : Bool) → length (live_from (suc c) (marked ss at)) < length (live_from (suc c) ss)
          → length (cond t (c ∷ live_from (suc c) (marked ss at)) (live_from (suc c) (marked ss at))) < length (cond t (c ∷ live_from (suc c) ss) (live_from (suc c) ss))
      by true r = omega (arith, r)
      by false r = r

  pub marked_less : (ss : List PlainSlot) (at : ℕ) → at < length ss → is_live (slot_at ss at) ≡ true → length (live_from 0 (marked ss at)) < length (live_from 0 ss)
  marked_less ss at lt l = live_less ss at 0 lt l
