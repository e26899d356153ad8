-- The sweep after each of its steps.
use Rattle.std.proofs.Common.{◌≡◌, ◌<◌, ◌≤◌, ◌⊎◌, ◌≢◌, ℕ, zero, suc, ◌+◌, Bool, true, false, ◌&&◌, ◌||◌, not, if◌then◌else◌, List, [], ◌∷◌, ◌++◌, map, length, set, get_or, take, replicate, refl, ap, sym, ◌∙◌, add-one, subst, length-set, eq-eqb, eqb-true, inl, inr, arith}
use Rattle.std.specs.Prelude.{◌==◌, nat_lt, nat_le, max}
use Rattle.std.specs.BTreeSet.{contains}
use Rattle.std.specs.Ordering.{nat_cmp}
use Rattle.std.proofs.lemmas.Bool.{and_parts, and_right, cases_Bool, not-true, not-false}
use Rattle.std.proofs.Math.Bool.{and-true, or_assoc}
use Rattle.std.proofs.lemmas.Grind.{same_number_lists}
use Rattle.std.proofs.lemmas.List.{get_or-set_same, get_or-set_other, length-map, take_more}
use Rattle.std.proofs.lemmas.Bool.Decides.{nat_tests}
use Rattle.g_graph.specs.WellFormed.{some_of}
use Rattle.val_core.proofs.lemmas.Numbers.{length_numbers}
use Rattle.s_linear.specs.Lines.{Line}
use Rattle.val_core.specs.Numbers.{numbers_from}
use Rattle.a_place.specs.Places.{first, last, name_count, Given, held, least, count_of, place_for, given, place_in}
use Rattle.a_place.specs.Sweep.{held_at, IsSweepAt, TakesFree, TakesNext}
use Rattle.a_place.specs.declared.sweep.Sweep.{Sweep}
use Rattle.a_place.proofs.Sweeping.{given_append, least_is, least_none, held_now, free_after, started_after}
use Rattle.a_place.proofs.lemmas.Apart.{place_free}
use Rattle.a_place.proofs.Order.{get_numbers}

pub ended : (lines : List Line) (i : ℕ) (gs : List Given) (old new : Sweep) → new.of ≡ old.of → new.count ≡ old.count → new.ends ≡ old.ends
    → ((q : ℕ) → contains nat_cmp new.free q ≡ (some_of (λ p. p == q) (get_or old.ends i []) || contains nat_cmp old.free q))
    → IsSweepAt lines i gs old → IsSweepAt lines (i + 1) gs new
ended lines i gs old new of count ends free s = record {
  of = ap (λ v. v.items) of ∙ s.of;
  count = count ∙ s.count;
  free = λ p. rw (free p, s.ends i p, s.free p, add-one i) (free_after lines i gs p s.all_started s.all_free);
  ends = λ e p. ap (λ lists. some_of (λ q. q == p) (get_or lists e [])) ends ∙ s.ends e p;
  all_started = rw (add-one i) (started_after lines i gs s.all_started);
  all_free = s.all_free;
}

-- ---- what a name gets

free_below : (q n : ℕ) (t f : Bool) → f ≡ (nat_lt q n && not t) → f ≡ true → (q < n) × (t ≡ false)
free_below q n t f h e =
    let parts = and_parts (nat_lt q n) (not t) (sym h ∙ e) in (grind (arith, nat_tests, parts.0), not-true t parts.1)

else_held : (q n : ℕ) (t f : Bool) → f ≡ (nat_lt q n && not t) → f ≡ false → q < n → t ≡ true
else_held q n t f h e below =
    let less : nat_lt q n ≡ true = grind (arith, nat_tests) in not-false t (sym (rw less at h) ∙ e)

module _ (old mid : Sweep) (p n : ℕ) (test : ℕ → Bool) (count : old.count ≡ n) (free : (q : ℕ) → contains nat_cmp old.free q ≡ (nat_lt q n && not (test q))) where
  -- what is taken is the least place that is not held
  taken_place : TakesFree old mid p ⊎ TakesNext old mid p → p ≡ least test 0 n
  taken_place (inl t) =
      let here = free_below p n (test p) (contains nat_cmp old.free p) (free p) t.free in
      sym (least_is test 0 n p (omega arith) (let h : p < n = here.0 in omega arith)
      (λ q a b. else_held q n (test q) (contains nat_cmp old.free q) (free q) (t.least q b) (let h : p < n = here.0 in omega arith)) here.1)
  taken_place (inr t) =
      t.next ∙ count ∙ sym (least_none test 0 n (λ q a b. else_held q n (test q) (contains nat_cmp old.free q) (free q) (t.none q) (omega arith)) ∙ omega arith)

  taken_count : TakesFree old mid p ⊎ TakesNext old mid p → mid.count ≡ max (suc p) n
  taken_count (inl t) =
      let below : p < n = (free_below p n (test p) (contains nat_cmp old.free p) (free p) t.free).0 in
      let same : mid.count ≡ old.count = t.count in omega arith
  taken_count (inr t) = let next : p ≡ old.count = t.next in let more : mid.count ≡ suc old.count = t.count in omega arith

  taken_free : TakesFree old mid p ⊎ TakesNext old mid p → (q : ℕ)
      → (contains nat_cmp old.free q && not (q == p)) ≡ (nat_lt q (max (suc p) n) && not ((p == q) || test q))
  taken_free (inl t) q =
      let below : p < n = (free_below p n (test p) (contains nat_cmp old.free p) (free p) t.free).0 in
      let most : max (suc p) n ≡ n = omega arith in
      rw (free q, most, turned q p) (without (nat_lt q n) (test q) (p == q))
    where
      turned : (a b : ℕ) → (a == b) ≡ (b == a)
      turned a b = grind (arith, nat_tests)

      without : (l t e : Bool) → ((l && not t) && not e) ≡ (l && not (e || t))
      without true true true = refl
      without true true false = refl
      without true false true = refl
      without true false false = refl
      without false t e = refl
  taken_free (inr t) q =
      let next : p ≡ n = t.next ∙ count in
      elim (cases_Bool (p == q)) [
        | inl same ↦ rw (t.none q, same) (sym (and_right (nat_lt q (max (suc p) n)) false refl))
        | inr other ↦
            elim (cases_Bool (nat_lt q n)) [
              | inl less ↦
                  let holds : test q ≡ true = else_held q n (test q) (contains nat_cmp old.free q) (free q) (t.none q) (grind (arith, nat_tests)) in
                  rw (t.none q, other, holds) (sym (and_right (nat_lt q (max (suc p) n)) false refl))
              | inr more ↦
                  let outside : nat_lt q (max (suc p) n) ≡ false = grind (arith, nat_tests) in rw (t.none q, outside) refl
            ]
      ]

some_of_append : {X : Type 0} (test : X → Bool) (xs ys : List X) → some_of test (xs ++ ys) ≡ (some_of test xs || some_of test ys)
some_of_append test [] ys = refl
some_of_append test (x ∷ xs) ys = ap (λ b. test x || b) (some_of_append test xs ys) ∙ sym (or_assoc (test x) (some_of test xs) (some_of test ys))

-- one number more in one of the lists
one_put : (lists : List (List ℕ)) (end p e q : ℕ) → end < length lists
    → some_of (λ r. r == q) (get_or (set lists end (get_or lists end [] ++ p ∷ [])) e []) ≡ (((p == q) && (end == e)) || some_of (λ r. r == q) (get_or lists e []))
one_put lists end p e q room =
    elim (cases_Bool (end == e)) [
      | inl same ↦
          rw (sym (eqb-true end e same), eq-eqb end end refl, get_or-set_same lists end (get_or lists end [] ++ p ∷ []) [] room)
          (some_of_append (λ r. r == q) (get_or lists end []) (p ∷ []) ∙ turned (some_of (λ r. r == q) (get_or lists end [])) (p == q))
      | inr other ↦
          let apart : e ≢ end = grind (arith, nat_tests) in
          rw (other, and_right (p == q) false refl, get_or-set_other lists end e (get_or lists end [] ++ p ∷ []) [] apart) refl
    ]
  where
    turned : (o a : Bool) → (o || (a || false)) ≡ ((a && true) || o)
    turned true true = refl
    turned true false = refl
    turned false true = refl
    turned false false = refl

of_set : (f : ℕ → ℕ) (n x p : ℕ) → x < n → set (map f (numbers_from 0 n)) x p ≡ map (λ k. if x == k then p else f k) (numbers_from 0 n)
of_set f n x p room =
    same_number_lists _ _ (rw (length-set, length-map, length-map) refl)
    (λ k h.
    let g : ℕ → ℕ = λ k. if x == k then p else f k in
    let below : k < n = rw (length-set, length-map, length_numbers) at h in
    let wanted : get_or (map g (numbers_from 0 n)) k 0 ≡ g k = get_numbers g 0 n k 0 below ∙ ap g (omega arith) in
    elim (cases_Bool (x == k)) [
      | inl same ↦
          let inside : x < length (map f (numbers_from 0 n)) = rw (length-map, length_numbers) room in
          let hit : get_or (set (map f (numbers_from 0 n)) x p) k 0 ≡ p =
          rw (sym (eqb-true x k same)) (get_or-set_same (map f (numbers_from 0 n)) x p 0 inside) in
          hit ∙ sym (wanted ∙ rw same refl)
      | inr other ↦
          let apart : k ≢ x = grind (arith, nat_tests) in
          let kept : get_or (map f (numbers_from 0 n)) k 0 ≡ f k = get_numbers f 0 n k 0 below ∙ ap f (omega arith) in
          get_or-set_other (map f (numbers_from 0 n)) x k p 0 apart ∙ kept ∙ sym (wanted ∙ rw other refl)
    ])

pub placed : (lines : List Line) (i x end p : ℕ) (gs : List Given) (old mid new : Sweep) → first x lines ≡ i → last x lines ≡ end → i ≤ end → x < length old.of.items
    → IsSweepAt lines i gs old → TakesFree old mid p ⊎ TakesNext old mid p → ((q : ℕ) → contains nat_cmp mid.free q ≡ (contains nat_cmp old.free q && not (q == p)))
    → new.of.items ≡ set old.of.items x p → new.count ≡ mid.count → new.free ≡ mid.free → end < length old.ends
    → new.ends ≡ set old.ends end (get_or old.ends end [] ++ p ∷ []) → IsSweepAt lines i (given lines (x ∷ []) gs) new
placed lines i x end p gs old mid new starts ends within inside s takes free of count sets room lists =
    let lasts : i ≤ last x lines = rw ends within in
    let place : p ≡ place_for lines x gs =
    taken_place old mid p (count_of gs) (held_at lines i gs) s.count s.free takes
    ∙ sym (λ j. least (λ q. held_now lines x i gs q starts lasts s.all_started j) 0 (count_of gs)) in
    let stays : nat_le i (last x lines) ≡ true = grind (arith, nat_tests) in
    subst (λ q. IsSweepAt lines i (record { name = x; place = q } ∷ gs) new) place
    (record {
      of = of ∙ ap (λ l. set l x p) s.of ∙ of_set (place_in gs) (name_count lines) x p (rw (s.of, length-map, length_numbers) at inside);
      count = count ∙ taken_count old mid p (count_of gs) (held_at lines i gs) s.count s.free takes;
      free = λ q. ap (λ f. contains nat_cmp f q) sets ∙ free q ∙ taken_free old mid p (count_of gs) (held_at lines i gs) s.count s.free takes q ∙
          rw stays (ap (λ b. nat_lt q (max (suc p) (count_of gs)) && not (b || held_at lines i gs q)) (sym (and-true (p == q))));
      ends = λ e q. ap (λ ls. some_of (λ r. r == q) (get_or ls e [])) lists ∙ one_put old.ends end p e q room ∙ rw (ends, s.ends e q) refl;
      all_started = (let first_is : first x lines ≡ i = starts in omega arith, s.all_started);
      all_free = (ap (held lines x gs) place ∙ place_free lines x gs, s.all_free);
    })

-- ---- the beginning

all_zero : (from n : ℕ) → replicate n 0 ≡ map (place_in []) (numbers_from from n)
all_zero from zero = refl
all_zero from (suc n) = ap (λ xs. 0 ∷ xs) (all_zero (suc from) n)

all_empty : (n e : ℕ) → ◌≡◌ {A = List ℕ} (get_or (replicate n []) e []) []
all_empty zero e = refl
all_empty (suc n) zero = refl
all_empty (suc n) (suc e) = all_empty n e

pub at_first : (lines : List Line) (n : ℕ) (new : Sweep) → new.of.items ≡ replicate (name_count lines) 0 → new.count ≡ 0 → new.free.keys ≡ []
    → new.ends ≡ replicate n [] → IsSweepAt lines 0 [] new
at_first lines n new of count free ends = record {
  of = of ∙ all_zero 0 (name_count lines);
  count = count;
  free = λ p. rw free (let none : nat_lt p 0 ≡ false = grind (arith, nat_tests) in rw none refl);
  ends = λ e p. ap (λ lists. some_of (λ q. q == p) (get_or lists e [])) ends ∙ ap (some_of (λ q. q == p)) (all_empty n e);
  all_started = tt;
  all_free = tt;
}

-- ---- a name that starts, among those of its position

pub one_given : (lines : List Line) (names : List ℕ) (k name : ℕ) (gs : List Given) → k < length names → name ≡ get_or names k 0
    → given lines (name ∷ []) (given lines (take k names) gs) ≡ given lines (take (k + 1) names) gs
one_given lines names k name gs h e =
    rw (take_more names k 0 h, e) (sym (given_append lines (take k names) (get_or names k 0 ∷ []) gs))
