-- The nodes that are there from a node on: the walk over them, as nodes go one after another.
use Rattle.std.proofs.Common.{◌≡◌, ℕ, zero, suc, ◌+◌, ◌<◌, Bool, true, false, ◌||◌, cond, eqb, Option, Some, None, List, [], ◌∷◌, ◌++◌, length, set, take, drop, refl, ap, sym, ◌∙◌, subst, length-set, arith, true≢false}
use Rattle.std.specs.Prelude.{slice_get}
use Rattle.std.proofs.lemmas.Bool.{eqb-true, eqb-false, eq-eqb, ne_eqb}
use Rattle.std.proofs.lemmas.List.{length-map, drop-set-lt}
use Rattle.std.proofs.lemmas.Option.{same_Some}
use Rattle.cell_lists.specs.Lists.{AreDistinct, first_or, after_in}
use Rattle.g_graph.specs.declared.op.Kind.{Kind}
use Rattle.g_arena_def.specs.Flat.{body_place, place_in, is_in}
use Rattle.g_arena_def.specs.Edits.{at_with, regions_gone, nodes_without}
use Rattle.g_arena_use.specs.Lists.{PlainList, PlainUses, origins_at, emptied}
use Rattle.g_arena_use.specs.Plain.{PlainSlot, IsThere, is_live, slot_at, id_at, numbers_of, live_from, node_went, slot_gone}
use Rattle.g_arena_use.specs.Seen.{homes_of, regions_seen, slot_seen, nodes_seen}
use Rattle.g_arena_use.specs.Indexed.{AreIndexed}
use Rattle.g_arena_use.proofs.SeenLemmas.{apart, picks, skips, seen_at, same_slot}
use Rattle.g_arena_use.proofs.ResultLemmas.{origins_same}
use Rattle.g_arena_use.proofs.ReadLemmas.{slot_there, home_at}
use Rattle.g_arena_use.proofs.ChangeLemmas.{edited_kept, indexed_kept}
use Rattle.g_arena.specs.Rows.{HasResults}
use Rattle.g_arena.specs.Gone.{AreGone, cleared, ArePlaced, WentTogether}
use Rattle.g_arena.proofs.GoneLemmas.{cleared_kept, cleared_none, cleared_other, emptied_at, marked_here, marked_other, marked, marked_indexed, marked_gone, went_more, none_went}

-- ---- the slots that are there

-- the first slot that is there, of those behind so many, where slots are counted from a first one
record First (ls : List PlainList) (xs : List PlainList) (ss : List PlainSlot) (c b at : ℕ) : Type 0 where
  k : ℕ
  own : at ≡ c + k
  inside : k < length ss
  live : is_live (slot_at ss k) ≡ true
  rest : nodes_seen (drop b xs) ls (drop b ss) ≡ seen_at xs ls ss k ∷ nodes_seen (drop (suc k) xs) ls (drop (suc k) ss)
  front : (t : PlainSlot) → is_live t ≡ false → nodes_seen (take (suc k) xs) ls (take (suc k) (set ss k t)) ≡ nodes_seen (take b xs) ls (take b ss)

first_later : (ls : List PlainList) (x : PlainList) (xs : List PlainList) (s : PlainSlot) (ss : List PlainSlot) (c b at : ℕ) → First ls xs ss (suc c) b at → First ls (x ∷ xs) (s ∷ ss) c (suc b) at
first_later ls x xs s ss c b at f = record {
  k = suc f.k;
  own = omega (arith, f.own);
  inside = omega (arith, f.inside);
  live = f.live;
  rest = f.rest;
  front = λ t d. (let e = f.front t d in λ i. cond (is_live s) (slot_seen x.origins ls s ∷ e i) (e i));
}

first_live : (ls xs : List PlainList) (ss : List PlainSlot) (c b at : ℕ) → length xs ≡ length ss → first_or None (live_from (c + b) (drop b ss)) ≡ Some at → First ls xs ss c b at
first_live ls xs [] c zero at e h = absurd (apart at h)
first_live ls xs [] c (suc b) at e h = absurd (apart at h)
first_live ls [] (s ∷ ss) c b at e h = absurd (omega (arith, e))
first_live ls (x ∷ xs) (s ∷ ss) c zero at e h = by (is_live s) refl h (λ g. first_live ls xs ss (suc c) zero at (omega (arith, e)) g)
  where
    by : (t : Bool) → is_live s ≡ t → first_or None (cond t ((c + 0) ∷ live_from (suc (c + 0)) ss) (live_from (suc (c + 0)) ss)) ≡ Some at
        → (first_or None (live_from (suc c + 0) ss) ≡ Some at → First ls xs ss (suc c) zero at) → First ls (x ∷ xs) (s ∷ ss) c zero at
    by true l g go = record {
      k = 0;
      own = sym (same_Some (c + 0) at g);
      inside = omega arith;
      live = l;
      rest = picks (is_live s) (slot_seen x.origins ls s ∷ nodes_seen xs ls ss) (nodes_seen xs ls ss) l;
      front = λ t d. skips (is_live t) (slot_seen x.origins ls t ∷ []) [] d;
    }
    by false l g go =
        let z : suc (c + 0) ≡ suc c + 0 = omega arith in
        let r = go (ap (λ n. first_or None (live_from n ss)) (sym z) ∙ g) in
        record {
          k = suc r.k;
          own = omega (arith, r.own);
          inside = omega (arith, r.inside);
          live = r.live;
          rest = skips (is_live s) (slot_seen x.origins ls s ∷ nodes_seen xs ls ss) (nodes_seen xs ls ss) l ∙ r.rest;
          front = λ t d.
              skips (is_live s) (slot_seen x.origins ls s ∷ nodes_seen (take (suc r.k) xs) ls (take (suc r.k) (set ss r.k t))) (nodes_seen (take (suc r.k) xs) ls (take (suc r.k) (set ss r.k t))) l
              ∙ r.front t d;
        }
first_live ls (x ∷ xs) (s ∷ ss) c (suc b) at e h =
    let z : suc c + b ≡ c + suc b = omega arith in
    first_later ls x xs s ss c b at (first_live ls xs ss (suc c) b at (omega (arith, e)) (ap (λ n. first_or None (live_from n (drop b ss))) z ∙ h))

none_live : (ls xs : List PlainList) (ss : List PlainSlot) (n : ℕ) → first_or None (live_from n ss) ≡ None → nodes_seen xs ls ss ≡ []
none_live ls xs [] n h = nothing xs
  where
    nothing : (xs : List PlainList) → nodes_seen xs ls [] ≡ []
    nothing [] = refl
    nothing (x ∷ xs) = refl
none_live ls [] (s ∷ ss) n h = refl
none_live ls (x ∷ xs) (s ∷ ss) n h = by (is_live s) h (none_live ls xs ss (suc n))
  where
    by : (t : Bool) → first_or None (cond t (n ∷ live_from (suc n) ss) (live_from (suc n) ss)) ≡ None → (first_or None (live_from (suc n) ss) ≡ None → nodes_seen xs ls ss ≡ [])
        → cond t (slot_seen x.origins ls s ∷ nodes_seen xs ls ss) (nodes_seen xs ls ss) ≡ []
    by true g go = absurd (apart n (sym g))
    by false g go = go g

split : (ls xs : List PlainList) (ss : List PlainSlot) (b : ℕ) → length xs ≡ length ss → nodes_seen (take b xs) ls (take b ss) ++ nodes_seen (drop b xs) ls (drop b ss) ≡ nodes_seen xs ls ss
split ls xs ss zero e = refl
split ls [] [] (suc b) e = refl
split ls (x ∷ xs) [] (suc b) e = absurd (omega (arith, e))
split ls [] (s ∷ ss) (suc b) e = absurd (omega (arith, e))
split ls (x ∷ xs) (s ∷ ss) (suc b) e = by (is_live s) (split ls xs ss b (omega (arith, e)))
  where
    by : (t : Bool) → nodes_seen (take b xs) ls (take b ss) ++ nodes_seen (drop b xs) ls (drop b ss) ≡ nodes_seen xs ls ss
        → cond t (slot_seen x.origins ls s ∷ nodes_seen (take b xs) ls (take b ss)) (nodes_seen (take b xs) ls (take b ss)) ++ nodes_seen (drop b xs) ls (drop b ss)
        ≡ cond t (slot_seen x.origins ls s ∷ nodes_seen xs ls ss) (nodes_seen xs ls ss)
    by true r = ap (λ ns. slot_seen x.origins ls s ∷ ns) r
    by false r = r

after_is : (ss : List PlainSlot) (c k : ℕ) → k < length ss → is_live (slot_at ss k) ≡ true → after_in (c + k) (live_from c ss) ≡ first_or None (live_from (suc (c + k)) (drop (suc k) ss))
after_is [] c k lt l = absurd (omega (arith, lt))
after_is (s ∷ ss) c zero lt l =
    ap (λ b. after_in (c + 0) (cond b (c ∷ live_from (suc c) ss) (live_from (suc c) ss))) l
    ∙ picks (eqb (c + 0) c) (first_or None (live_from (suc c) ss)) (after_in (c + 0) (live_from (suc c) ss)) (eq-eqb (c + 0) c (omega arith))
    ∙ ap (λ n. first_or None (live_from n ss)) (omega arith)
after_is (s ∷ ss) c (suc k) lt l =
    let z : c + suc k ≡ suc c + k = omega arith in
    by (is_live s) ∙ ap (λ n. after_in n (live_from (suc c) ss)) z ∙ after_is ss (suc c) k (omega (arith, lt)) l ∙ ap (λ n. first_or None (live_from (suc n) (drop (suc k) ss))) (sym z)
  where
    by : (t : Bool) → after_in (c + suc k) (cond t (c ∷ live_from (suc c) ss) (live_from (suc c) ss)) ≡ after_in (c + suc k) (live_from (suc c) ss)
    by true = skips (eqb (c + suc k) c) (first_or None (live_from (suc c) ss)) (after_in (c + suc k) (live_from (suc c) ss)) (ne_eqb (c + suc k) c (λ e. omega (arith, e)))
    by false = refl

-- ---- the node of a slot goes, and those behind it that are in its regions

own_id : (s : PlainSlot) (ss : List PlainSlot) (k : ℕ) → AreDistinct (numbers_of (s ∷ ss)) → k < length ss → eqb s.id (id_at ss k) ≡ false
own_id s ss k d lt = ne_eqb s.id (id_at ss k) (λ e. let z : 0 ≡ suc k = same_slot (s ∷ ss) 0 (suc k) d (omega arith) (omega (arith, lt)) e in omega (arith, z))

root_goes : (ls xs : List PlainList) (ss : List PlainSlot) (root : ℕ) (t : PlainSlot) → length xs ≡ length ss → AreDistinct (numbers_of ss) → root < length ss → is_live (slot_at ss root) ≡ true → is_live t ≡ false
    → nodes_without (id_at ss root) (nodes_seen xs ls ss)
    ≡ nodes_seen (take (suc root) xs) ls (take (suc root) (set ss root t)) ++ regions_gone (id_at ss root ∷ []) (nodes_seen (drop (suc root) xs) ls (drop (suc root) (set ss root t)))
root_goes ls xs [] root t e d lt l n = absurd (omega (arith, lt))
root_goes ls [] (s ∷ ss) root t e d lt l n = absurd (omega (arith, e))
root_goes ls (x ∷ xs) (s ∷ ss) zero t e d lt l n =
    ap (nodes_without s.id) (picks (is_live s) (slot_seen x.origins ls s ∷ nodes_seen xs ls ss) (nodes_seen xs ls ss) l)
    ∙ picks (eqb s.id s.id) (regions_gone (s.id ∷ []) (nodes_seen xs ls ss)) (slot_seen x.origins ls s ∷ nodes_without s.id (nodes_seen xs ls ss)) (eq-eqb s.id s.id refl)
    ∙ ap (λ ns. ns ++ regions_gone (s.id ∷ []) (nodes_seen xs ls ss)) (sym (skips (is_live t) (slot_seen x.origins ls t ∷ []) [] n))
root_goes ls (x ∷ xs) (s ∷ ss) (suc root) t e d lt l n = by (is_live s) (root_goes ls xs ss root t (omega (arith, e)) d.1 (omega (arith, lt)) l n)
  where
    by : (b : Bool) → nodes_without (id_at ss root) (nodes_seen xs ls ss) ≡ nodes_seen (take (suc root) xs) ls (take (suc root) (set ss root t)) ++ regions_gone (id_at ss root ∷ []) (nodes_seen (drop (suc root) xs) ls (drop (suc root) (set ss root t)))
        → nodes_without (id_at ss root) (cond b (slot_seen x.origins ls s ∷ nodes_seen xs ls ss) (nodes_seen xs ls ss))
        ≡ cond b (slot_seen x.origins ls s ∷ nodes_seen (take (suc root) xs) ls (take (suc root) (set ss root t))) (nodes_seen (take (suc root) xs) ls (take (suc root) (set ss root t)))
        ++ regions_gone (id_at ss root ∷ []) (nodes_seen (drop (suc root) xs) ls (drop (suc root) (set ss root t)))
    by true r =
        skips (eqb s.id (id_at ss root)) (regions_gone (id_at ss root ∷ []) (nodes_seen xs ls ss)) (slot_seen x.origins ls s ∷ nodes_without (id_at ss root) (nodes_seen xs ls ss)) (own_id s ss root d (omega (arith, lt)))
        ∙ ap (λ ns. slot_seen x.origins ls s ∷ ns) r
    by false r = r

-- ---- the lists of the nodes that are there stay

pub record AreAlike (ss : List PlainSlot) (xs ls xs' ls' : List PlainList) : Type 0 where
  pub inputs : (k : ℕ) → is_live (slot_at ss k) ≡ true → origins_at xs' k ≡ origins_at xs k
  pub results : (i k : ℕ) → is_live (slot_at ss i) ≡ true → k < length (slot_at ss i).regions → origins_at ls' ((slot_at ss i).results + k) ≡ origins_at ls ((slot_at ss i).results + k)

regions_alike : (ls ls' : List PlainList) (first : ℕ) (kss : List (List Kind)) → ((k : ℕ) → k < length kss → origins_at ls' (first + k) ≡ origins_at ls (first + k)) → regions_seen ls' first kss ≡ regions_seen ls first kss
regions_alike ls ls' first [] h = refl
regions_alike ls ls' first (ks ∷ kss) h =
    let z : first ≡ first + 0 = omega arith in
    let a : origins_at ls' first ≡ origins_at ls first = ap (origins_at ls') z ∙ h 0 (omega arith) ∙ ap (origins_at ls) (sym z) in
    let r = regions_alike ls ls' (suc first) kss (λ k lt. let y : suc first + k ≡ first + suc k = omega arith in ap (origins_at ls') y ∙ h (suc k) (omega (arith, lt)) ∙ ap (origins_at ls) (sym y)) in
    λ i. record { args = ks; results = a i } ∷ r i

alike_seen : (ss : List PlainSlot) (xs ls xs' ls' : List PlainList) → length xs ≡ length ss → length xs' ≡ length ss → AreAlike ss xs ls xs' ls' → nodes_seen xs' ls' ss ≡ nodes_seen xs ls ss
alike_seen [] xs ls xs' ls' e f a = nothing xs' ls' ∙ sym (nothing xs ls)
  where
    nothing : (xs ls : List PlainList) → nodes_seen xs ls [] ≡ []
    nothing [] ls = refl
    nothing (x ∷ xs) ls = refl
alike_seen (s ∷ ss) [] ls xs' ls' e f a = absurd (omega (arith, e))
alike_seen (s ∷ ss) (x ∷ xs) ls [] ls' e f a = absurd (omega (arith, f))
alike_seen (s ∷ ss) (x ∷ xs) ls (x' ∷ xs') ls' e f a =
    by (alike_seen ss xs ls xs' ls' (omega (arith, e)) (omega (arith, f)) (record { inputs = λ k l. a.inputs (suc k) l; results = λ i k l lt. a.results (suc i) k l lt })) (is_live s) refl
  where
    by : nodes_seen xs' ls' ss ≡ nodes_seen xs ls ss → (t : Bool) → is_live s ≡ t → cond t (slot_seen x'.origins ls' s ∷ nodes_seen xs' ls' ss) (nodes_seen xs' ls' ss) ≡ cond t (slot_seen x.origins ls s ∷ nodes_seen xs ls ss) (nodes_seen xs ls ss)
    by rest true l =
        let os = a.inputs 0 l in
        let rs = regions_alike ls ls' s.results s.regions (λ k lt. a.results 0 k l lt) in
        λ i. record { id = s.id; op = s.op; inputs = os i; outputs = s.outputs; regions = rs i; home = s.home } ∷ rest i
    by rest false l = rest

long_inputs : (args : List Kind) (ss : List PlainSlot) (xs ls : PlainUses) → AreIndexed args ss xs ls → length xs.lists ≡ length ss
long_inputs args ss xs ls a = sym (length-map xs.lists (λ (l : PlainList). l.home)) ∙ ap length a.inputs.homes ∙ length-map ss (λ (s : PlainSlot). s.home)

regions_inside : (ss : List PlainSlot) (i k : ℕ) → k < length (slot_at ss i).regions → i < length ss
regions_inside [] i k lt = absurd (omega (arith, lt))
regions_inside (s ∷ ss) zero k lt = omega arith
regions_inside (s ∷ ss) (suc i) k lt = omega (arith, regions_inside ss i k lt)

-- ---- one node goes

-- what is stored once the node of a slot went
abbrev pub inputs_without : PlainUses → ℕ → PlainUses
inputs_without xs at = record xs { lists = at_with at emptied xs.lists }

abbrev pub results_without : List PlainSlot → PlainUses → ℕ → PlainUses
results_without ss ls at = record ls { lists = cleared (slot_at ss at).results (length (slot_at ss at).regions) ls.lists }

module _ (root : ℕ) (args : List Kind) (ss : List PlainSlot) (xs ls : PlainUses) (a : AreIndexed args ss xs ls) (at : ℕ) (lt : at < length ss) where
  one_indexed : AreIndexed args (marked root ss at) (inputs_without xs at) (results_without ss ls at)
  one_indexed =
      marked_indexed root args ss (inputs_without xs at) (results_without ss ls at) at
      (indexed_kept args ss xs ls (at_with at emptied xs.lists) (cleared (slot_at ss at).results (length (slot_at ss at).regions) ls.lists) a (edited_kept (λ os. []) at xs.lists refl)
      (cleared_kept (slot_at ss at).results (length (slot_at ss at).regions) ls.lists)) (emptied_at at xs.lists)
      (λ k few. cleared_none (slot_at ss at).results (length (slot_at ss at).regions) k ls.lists few)

  -- the lists of the results of another node, and of the body, are others
  other_lists : (i k q : ℕ) → i < length ss → eqb i at ≡ false → k < length (slot_at ss i).regions → q < length (slot_at ss at).regions → (slot_at ss at).results + q ≡ (slot_at ss i).results + k → ⊥
  other_lists i k q few ne fit fits e =
      let h = sym (a.results.slots at q (slot_at ss at) (slot_there ss at lt) fits) ∙ ap (slice_get (homes_of ls.lists)) e ∙ a.results.slots i k (slot_at ss i) (slot_there ss i few) fit in
      let z : place_in (slot_at ss at).id q ≡ place_in (slot_at ss i).id k = same_Some _ _ h in
      eqb-false i at ne (same_slot ss i at a.once few lt (same_Some _ _ (sym (λ j. (z j).node))))

  body_other : (q : ℕ) → q < length (slot_at ss at).regions → (slot_at ss at).results + q ≡ 0 → ⊥
  body_other q fits e =
      let h = sym (a.results.slots at q (slot_at ss at) (slot_there ss at lt) fits) ∙ ap (slice_get (homes_of ls.lists)) e ∙ a.results.body in
      let z : place_in (slot_at ss at).id q ≡ body_place = same_Some _ _ h in
      apart (slot_at ss at).id (sym (λ j. (z j).node))

  one_body : origins_at (results_without ss ls at).lists 0 ≡ origins_at ls.lists 0
  one_body = cleared_other (slot_at ss at).results (length (slot_at ss at).regions) 0 ls.lists (λ q fits e. body_other q fits e)

  one_alike : (xs0 ls0 : List PlainList) → AreAlike ss xs0 ls0 xs.lists ls.lists → AreAlike (marked root ss at) xs0 ls0 (inputs_without xs at).lists (results_without ss ls at).lists
  one_alike xs0 ls0 s = record {
    inputs = λ k l. by_input k l (eqb k at) refl;
    results = λ i k l fit. by_result i k l fit (eqb i at) refl;
  }
    where
      dead : (k : ℕ) → eqb k at ≡ true → is_live (slot_at (marked root ss at) k) ≡ true → ⊥
      dead k e l = true≢false (sym l ∙ ap (λ j. is_live (slot_at (marked root ss at) j)) (eqb-true k at e) ∙ ap is_live (marked_here ss at (slot_gone root (slot_at ss at)) lt))

      by_input : (k : ℕ) → is_live (slot_at (marked root ss at) k) ≡ true → (t : Bool) → eqb k at ≡ t → origins_at (at_with at emptied xs.lists) k ≡ origins_at xs0 k
      by_input k l true e = absurd (dead k e l)
      by_input k l false e =
          origins_same (λ os. []) at k xs.lists (λ z. eqb-false k at e (sym z)) ∙ s.inputs k (sym (ap is_live (marked_other ss at (slot_gone root (slot_at ss at)) k e)) ∙ l)

      by_result : (i k : ℕ) → is_live (slot_at (marked root ss at) i) ≡ true → k < length (slot_at (marked root ss at) i).regions → (t : Bool) → eqb i at ≡ t
          → origins_at (results_without ss ls at).lists ((slot_at (marked root ss at) i).results + k) ≡ origins_at ls0 ((slot_at (marked root ss at) i).results + k)
      by_result i k l fit true e = absurd (dead i e l)
      by_result i k l fit false e =
          let o = marked_other ss at (slot_gone root (slot_at ss at)) i e in
          let few : k < length (slot_at ss i).regions = omega (arith, fit, ap (λ (x : PlainSlot). length x.regions) o) in
          ap (λ (x : PlainSlot). origins_at (results_without ss ls at).lists (x.results + k)) o
          ∙ cleared_other (slot_at ss at).results (length (slot_at ss at).regions) ((slot_at ss i).results + k) ls.lists (λ q fits z. other_lists i k q (regions_inside ss i k few) e few fits z)
          ∙ s.results i k (sym (ap is_live o) ∙ l) few
          ∙ ap (λ (x : PlainSlot). origins_at ls0 (x.results + k)) (sym o)

-- ---- the walk

-- the nodes that were seen, without those that go, are those before an index and what is left of those behind it
pub record Going (root : ℕ) (ss0 : List PlainSlot) (xs0 ls0 : PlainUses) (ss : List PlainSlot) (xs ls : PlainUses) (found : Option ℕ) : Type 0 where
  pub args : List Kind
  pub placed : AreIndexed args ss xs ls
  pub indexed : (args : List Kind) → AreIndexed args ss0 xs0 ls0 → AreIndexed args ss xs ls
  pub gone : AreGone ss
  pub dead : is_live (slot_at ss root) ≡ false
  pub long : length xs0.lists ≡ length ss
  pub alike : AreAlike ss xs0.lists ls0.lists xs.lists ls.lists
  pub body : origins_at ls.lists 0 ≡ origins_at ls0.lists 0
  pub base : ℕ
  pub numbers : List ℕ
  pub next : found ≡ first_or None (live_from base (drop base ss))
  pub rest : nodes_without (id_at ss0 root) (nodes_seen xs0.lists ls0.lists ss0) ≡ nodes_seen (take base xs0.lists) ls0.lists (take base ss) ++ regions_gone numbers (nodes_seen (drop base xs0.lists) ls0.lists (drop base ss))
  pub went : (o : Option ℕ) → is_in numbers o ≡ node_went root ss o

-- the slot of the node that goes next
pub going_at : (root : ℕ) (ss0 : List PlainSlot) (xs0 ls0 : PlainUses) (ss : List PlainSlot) (xs ls : PlainUses) (at : ℕ) → Going root ss0 xs0 ls0 ss xs ls (Some at) → IsThere at ss
going_at root ss0 xs0 ls0 ss xs ls at g =
    let f = first_live ls0.lists xs0.lists ss 0 g.base at g.long (ap (λ n. first_or None (live_from n (drop g.base ss))) (omega arith) ∙ sym g.next) in
    let P : ℕ → Type 0 = λ n. IsThere n ss in
    subst P (let z : f.k ≡ at = omega (arith, f.own) in z) (record { inside = f.inside; live = f.live })

next_is : (ss : List PlainSlot) (at : ℕ) (t : PlainSlot) → at < length ss → is_live (slot_at ss at) ≡ true → after_in at (live_from 0 ss) ≡ first_or None (live_from (suc at) (drop (suc at) (set ss at t)))
next_is ss at t lt l =
    let z : at ≡ 0 + at = omega arith in
    ap (λ n. after_in n (live_from 0 ss)) z ∙ after_is ss 0 at lt l ∙ ap (λ n. first_or None (live_from (suc n) (drop (suc at) ss))) (sym z)
    ∙ ap (λ xs. first_or None (live_from (suc at) xs)) (sym (drop-set-lt (suc at) ss at t (omega arith)))

pub going_first : (root : ℕ) (ss : List PlainSlot) (xs ls : PlainUses) → ArePlaced ss xs ls → IsThere root ss
    → Going root ss xs ls (marked root ss root) (inputs_without xs root) (results_without ss ls root) (after_in root (live_from 0 ss))
going_first root ss xs ls p i = record {
  args = p.args;
  placed = one_indexed root p.args ss xs ls p.indexed root i.inside;
  indexed = λ args a. one_indexed root args ss xs ls a root i.inside;
  gone = marked_gone root ss root p.gone i.inside dead;
  dead = dead;
  long = long ∙ sym (length-set ss root (slot_gone root (slot_at ss root)));
  alike = one_alike root p.args ss xs ls p.indexed root i.inside xs.lists ls.lists (record { inputs = λ k l. refl; results = λ i k l fit. refl });
  body = one_body root p.args ss xs ls p.indexed root i.inside;
  base = suc root;
  numbers = id_at ss root ∷ [];
  next = next_is ss root (slot_gone root (slot_at ss root)) i.inside i.live;
  rest = root_goes ls.lists xs.lists ss root (slot_gone root (slot_at ss root)) long p.indexed.once i.inside i.live refl;
  went = λ o. went o;
}
  where
    long : length xs.lists ≡ length ss
    long = long_inputs p.args ss xs ls p.indexed

    dead : is_live (slot_at (marked root ss root) root) ≡ false
    dead = ap is_live (marked_here ss root (slot_gone root (slot_at ss root)) i.inside)

    went : (o : Option ℕ) → is_in (id_at ss root ∷ []) o ≡ node_went root (marked root ss root) o
    went None = refl
    went (Some n) = ap (λ b. eqb n (id_at ss root) || b) (none_went root ss (Some n) p.gone i.live) ∙ sym (went_more root ss root n p.indexed.once i.inside)

pub going_more : (root : ℕ) (ss0 : List PlainSlot) (xs0 ls0 : PlainUses) (ss : List PlainSlot) (xs ls : PlainUses) (at : ℕ) → Going root ss0 xs0 ls0 ss xs ls (Some at)
    → node_went root ss (slot_at ss at).home.node ≡ true
    → Going root ss0 xs0 ls0 (marked root ss at) (inputs_without xs at) (results_without ss ls at) (after_in at (live_from 0 ss))
going_more root ss0 xs0 ls0 ss xs ls at g w = record {
  args = g.args;
  placed = one_indexed root g.args ss xs ls g.placed at i.inside;
  indexed = λ args a. one_indexed root args ss xs ls (g.indexed args a) at i.inside;
  gone = marked_gone root ss at g.gone i.inside dead;
  dead = dead;
  long = g.long ∙ sym (length-set ss at (slot_gone root (slot_at ss at)));
  alike = one_alike root g.args ss xs ls g.placed at i.inside xs0.lists ls0.lists g.alike;
  body = one_body root g.args ss xs ls g.placed at i.inside ∙ g.body;
  base = suc at;
  numbers = id_at ss at ∷ g.numbers;
  next = next_is ss at (slot_gone root (slot_at ss at)) i.inside i.live;
  rest = g.rest ∙ (λ j. sym front j ++ gone j);
  went = λ o. went o;
}
  where
    i : IsThere at ss
    i = going_at root ss0 xs0 ls0 ss xs ls at g

    f : First ls0.lists xs0.lists ss 0 g.base at
    f = first_live ls0.lists xs0.lists ss 0 g.base at g.long (ap (λ n. first_or None (live_from n (drop g.base ss))) (omega arith) ∙ sym g.next)

    same : f.k ≡ at
    same = omega (arith, f.own)

    front : nodes_seen (take (suc at) xs0.lists) ls0.lists (take (suc at) (marked root ss at)) ≡ nodes_seen (take g.base xs0.lists) ls0.lists (take g.base ss)
    front = ap (λ k. nodes_seen (take (suc k) xs0.lists) ls0.lists (take (suc k) (set ss k (slot_gone root (slot_at ss at))))) (sym same) ∙ f.front (slot_gone root (slot_at ss at)) refl

    gone : regions_gone g.numbers (nodes_seen (drop g.base xs0.lists) ls0.lists (drop g.base ss)) ≡ regions_gone (id_at ss at ∷ g.numbers) (nodes_seen (drop (suc at) xs0.lists) ls0.lists (drop (suc at) (marked root ss at)))
    gone =
        ap (regions_gone g.numbers) (f.rest ∙ ap (λ k. seen_at xs0.lists ls0.lists ss k ∷ nodes_seen (drop (suc k) xs0.lists) ls0.lists (drop (suc k) ss)) same)
        ∙ picks (is_in g.numbers (slot_at ss at).home.node) (regions_gone (id_at ss at ∷ g.numbers) (nodes_seen (drop (suc at) xs0.lists) ls0.lists (drop (suc at) ss)))
        (seen_at xs0.lists ls0.lists ss at ∷ nodes_seen (drop (suc at) xs0.lists) ls0.lists (drop (suc at) ss)) (g.went (slot_at ss at).home.node ∙ w)
        ∙ ap (λ ts. regions_gone (id_at ss at ∷ g.numbers) (nodes_seen (drop (suc at) xs0.lists) ls0.lists ts)) (sym (drop-set-lt (suc at) ss at (slot_gone root (slot_at ss at)) (omega arith)))

    dead : is_live (slot_at (marked root ss at) root) ≡ false
    dead = by (eqb root at) refl
      where
        by : (t : Bool) → eqb root at ≡ t → is_live (slot_at (marked root ss at) root) ≡ false
        by true e = ap (λ j. is_live (slot_at (marked root ss at) j)) (eqb-true root at e) ∙ ap is_live (marked_here ss at (slot_gone root (slot_at ss at)) i.inside)
        by false e = ap is_live (marked_other ss at (slot_gone root (slot_at ss at)) root e) ∙ g.dead

    went : (o : Option ℕ) → is_in (id_at ss at ∷ g.numbers) o ≡ node_went root (marked root ss at) o
    went None = refl
    went (Some n) = ap (λ b. eqb n (id_at ss at) || b) (g.went (Some n)) ∙ sym (went_more root ss at n g.placed.once i.inside)

-- the walk is at its end
going_done : (root : ℕ) (ss0 : List PlainSlot) (xs0 ls0 : PlainUses) (ss : List PlainSlot) (xs ls : PlainUses) (found : Option ℕ) (g : Going root ss0 xs0 ls0 ss xs ls found)
    → regions_gone g.numbers (nodes_seen (drop g.base xs0.lists) ls0.lists (drop g.base ss)) ≡ nodes_seen (drop g.base xs0.lists) ls0.lists (drop g.base ss)
    → WentTogether root ss0 xs0 ls0 ss xs ls
going_done root ss0 xs0 ls0 ss xs ls found g e = record {
  indexed = g.indexed;
  gone = g.gone;
  seen =
      alike_seen ss xs0.lists ls0.lists xs.lists ls.lists g.long (long_inputs g.args ss xs ls g.placed) g.alike
      ∙ sym (split ls0.lists xs0.lists ss g.base g.long)
      ∙ ap (λ ns. nodes_seen (take g.base xs0.lists) ls0.lists (take g.base ss) ++ ns) (sym e)
      ∙ sym g.rest;
  body = g.body;
}

pub going_ended : (root : ℕ) (ss0 : List PlainSlot) (xs0 ls0 : PlainUses) (ss : List PlainSlot) (xs ls : PlainUses) → Going root ss0 xs0 ls0 ss xs ls None → WentTogether root ss0 xs0 ls0 ss xs ls
going_ended root ss0 xs0 ls0 ss xs ls g =
    let e : nodes_seen (drop g.base xs0.lists) ls0.lists (drop g.base ss) ≡ [] = none_live ls0.lists (drop g.base xs0.lists) (drop g.base ss) g.base (sym g.next) in
    going_done root ss0 xs0 ls0 ss xs ls None g (ap (regions_gone g.numbers) e ∙ sym e)

pub going_stopped : (root : ℕ) (ss0 : List PlainSlot) (xs0 ls0 : PlainUses) (ss : List PlainSlot) (xs ls : PlainUses) (at : ℕ) → Going root ss0 xs0 ls0 ss xs ls (Some at)
    → node_went root ss (slot_at ss at).home.node ≡ false → WentTogether root ss0 xs0 ls0 ss xs ls
going_stopped root ss0 xs0 ls0 ss xs ls at g w = going_done root ss0 xs0 ls0 ss xs ls (Some at) g (ap (regions_gone g.numbers) e ∙ stays ∙ sym e)
  where
    f : First ls0.lists xs0.lists ss 0 g.base at
    f = first_live ls0.lists xs0.lists ss 0 g.base at g.long (ap (λ n. first_or None (live_from n (drop g.base ss))) (omega arith) ∙ sym g.next)

    same : f.k ≡ at
    same = omega (arith, f.own)

    e : nodes_seen (drop g.base xs0.lists) ls0.lists (drop g.base ss) ≡ seen_at xs0.lists ls0.lists ss at ∷ nodes_seen (drop (suc at) xs0.lists) ls0.lists (drop (suc at) ss)
    e = f.rest ∙ ap (λ k. seen_at xs0.lists ls0.lists ss k ∷ nodes_seen (drop (suc k) xs0.lists) ls0.lists (drop (suc k) ss)) same

    stays : regions_gone g.numbers (seen_at xs0.lists ls0.lists ss at ∷ nodes_seen (drop (suc at) xs0.lists) ls0.lists (drop (suc at) ss)) ≡ seen_at xs0.lists ls0.lists ss at ∷ nodes_seen (drop (suc at) xs0.lists) ls0.lists (drop (suc at) ss)
    stays =
        skips (is_in g.numbers (slot_at ss at).home.node) (regions_gone (id_at ss at ∷ g.numbers) (nodes_seen (drop (suc at) xs0.lists) ls0.lists (drop (suc at) ss)))
        (seen_at xs0.lists ls0.lists ss at ∷ nodes_seen (drop (suc at) xs0.lists) ls0.lists (drop (suc at) ss)) (g.went (slot_at ss at).home.node ∙ w)

-- ---- the same where what is stored is told by equations

pub going_by : (root : ℕ) (ss0 : List PlainSlot) (xs0 ls0 : PlainUses) (ss ss' : List PlainSlot) (xs xs' ls ls' : PlainUses) (n n' : Option ℕ) → Going root ss0 xs0 ls0 ss xs ls n → ss' ≡ ss → xs' ≡ xs → ls' ≡ ls → n' ≡ n
    → Going root ss0 xs0 ls0 ss' xs' ls' n'
going_by root ss0 xs0 ls0 ss ss' xs xs' ls ls' n n' g es ex el en =
    let P : List PlainSlot → Type 0 = λ a. Going root ss0 xs0 ls0 a xs ls n in
    let Q : PlainUses → Type 0 = λ a. Going root ss0 xs0 ls0 ss' a ls n in
    let R : PlainUses → Type 0 = λ a. Going root ss0 xs0 ls0 ss' xs' a n in
    let S : Option ℕ → Type 0 = λ a. Going root ss0 xs0 ls0 ss' xs' ls' a in
    subst S (sym en) (subst R (sym el) (subst Q (sym ex) (subst P (sym es) g)))

pub going_found : (root : ℕ) (ss0 : List PlainSlot) (xs0 ls0 : PlainUses) (ss : List PlainSlot) (xs ls : PlainUses) (n m : Option ℕ) → Going root ss0 xs0 ls0 ss xs ls n → n ≡ m → Going root ss0 xs0 ls0 ss xs ls m
going_found root ss0 xs0 ls0 ss xs ls n m g e = let S : Option ℕ → Type 0 = λ a. Going root ss0 xs0 ls0 ss xs ls a in subst S e g

pub inputs_there : (args : List Kind) (ss : List PlainSlot) (xs ls : PlainUses) (at : ℕ) → AreIndexed args ss xs ls → at < length ss → at < length xs.lists
inputs_there args ss xs ls at a lt = omega (arith, lt, long_inputs args ss xs ls a)

pub results_there : (args : List Kind) (ss : List PlainSlot) (xs ls : PlainUses) (at : ℕ) → AreIndexed args ss xs ls → at < length ss → HasResults ls.lists (slot_at ss at)
results_there args ss xs ls at a lt r few = home_at ls.lists ((slot_at ss at).results + r) (place_in (slot_at ss at).id r) (a.results.slots at r (slot_at ss at) (slot_there ss at lt) few)
