-- Names get a bound each.
use Rattle.std.proofs.Common.{◌≡◌, ◌≢◌, ◌<◌, ℕ, Bool, true, false, not, ◌&&◌, ◌||◌, if◌then◌else◌, subst, List, [], ◌∷◌, ◌++◌, length, set, refl, sym, ap, ◌∙◌, inl, inr, length-set, eq-eqb, eqb-true, arith}
use Rattle.std.specs.Prelude.{◌==◌, nat_lt, nat_le}
use Rattle.std.proofs.lemmas.Bool.{cases_Bool, or_left, or_right}
use Rattle.std.proofs.lemmas.Bool.Decides.{nat_tests}
use Rattle.std.proofs.lemmas.List.{get_or-set_same, get_or-set_other, append_assoc}
use Rattle.a_place.specs.Places.{among}
use Rattle.a_share.specs.Bounds.{differ, odd_of, Bounds, bounds_of, need_at, needed_now, is_odd_in, AreBelow, AreToggled}
use Rattle.a_share.proofs.Parity.{differ_assoc, differ_false, and_differ, odd_append, odd_push}

pub none_toggled : (ts : Bounds) (b : ℕ) → AreToggled ts ts [] b
none_toggled ts b = record {
  need = λ x k. sym (ap (differ (need_at ts x k)) (and_no (nat_le k b)) ∙ differ_false (need_at ts x k));
  size = refl;
  kept = λ x c h. h;
}
  where
    and_no : (t : Bool) → (t && false) ≡ false
    and_no true = refl
    and_no false = refl

among_append : (x : ℕ) (xs ys : List ℕ) → among x xs ≡ true → among x (xs ++ ys) ≡ true
among_append x [] ys h = absurd cc
among_append x (y ∷ xs) ys h =
    elim (cases_Bool (y == x)) [
      | inl here ↦ or_left (y == x) (among x (xs ++ ys)) here
      | inr other ↦ or_right (y == x) (among x (xs ++ ys)) (among_append x xs ys (let e : ((y == x) || among x xs) ≡ true = h in rw other at e))
    ]

-- one name gets a bound
pub one_toggled : (ts us : Bounds) (x b : ℕ) → x < length ts → us ≡ set ts x (bounds_of ts x ++ b ∷ []) → AreToggled ts us (x ∷ []) b
one_toggled ts us x b h e = record {
  need = λ y k.
      elim (cases_Bool (x == y)) [
        | inl same ↦
            let s : x ≡ y = eqb-true x y same in
            rw (e, ← s, get_or-set_same ts x (bounds_of ts x ++ b ∷ []) [] h)
            (odd_push (nat_le k) (bounds_of ts x) b ∙ ap (differ (odd_of (nat_le k) (bounds_of ts x))) (here (nat_le k b) x))
        | inr other ↦
            let s : y ≢ x = λ f. absurd (let g : (x == y) ≡ true = eq-eqb x y (sym f) in cc) in
            rw (e, get_or-set_other ts x y (bounds_of ts x ++ b ∷ []) [] s, other)
            (sym (elsewhere (nat_le k b) (need_at ts y k)))
      ];
  size = ap length e ∙ length-set ts x (bounds_of ts x ++ b ∷ []);
  kept = λ y c i.
      elim (cases_Bool (x == y)) [
        | inl same ↦
            let s : x ≡ y = eqb-true x y same in
            rw (e, ← s, get_or-set_same ts x (bounds_of ts x ++ b ∷ []) [] h) (among_append c (bounds_of ts x) (b ∷ []) (rw (← s) at i))
        | inr other ↦
            let s : y ≢ x = λ f. absurd (let g : (x == y) ≡ true = eq-eqb x y (sym f) in cc) in
            rw (e, get_or-set_other ts x y (bounds_of ts x ++ b ∷ []) [] s) i
      ];
}
  where
    here : (t : Bool) (x : ℕ) → t ≡ (t && differ (x == x) false)
    here true x = rw (eq-eqb x x refl) refl
    here false x = refl

    elsewhere : (t n : Bool) → differ n (t && false) ≡ n
    elsewhere true n = differ_false n
    elsewhere false n = differ_false n

pub more_toggled : (ts us vs : Bounds) (xs ys : List ℕ) (b : ℕ) → AreToggled ts us xs b → AreToggled us vs ys b → AreToggled ts vs (xs ++ ys) b
more_toggled ts us vs xs ys b p q = record {
  need = λ x k.
      q.need x k ∙ ap (λ n. differ n (nat_le k b && is_odd_in x ys)) (p.need x k)
      ∙ differ_assoc (need_at ts x k) (nat_le k b && is_odd_in x xs) (nat_le k b && is_odd_in x ys)
      ∙ ap (differ (need_at ts x k)) (and_differ (nat_le k b) (is_odd_in x xs) (is_odd_in x ys)
      ∙ ap (λ o. nat_le k b && o) (sym (odd_append (λ y. y == x) xs ys)));
  size = q.size ∙ p.size;
  kept = λ x c h. q.kept x c (p.kept x c h);
}

-- before the bound
pub toggled_now : (ts us : Bounds) (xs : List ℕ) (b x : ℕ) → AreToggled ts us xs b → needed_now us x ≡ differ (needed_now ts x) (is_odd_in x xs)
toggled_now ts us xs b x p = let low : nat_le 0 b ≡ true = grind (arith, nat_tests) in p.need x 0 ∙ rw low refl

pub below_append : (n : ℕ) (xs ys : List ℕ) → AreBelow n xs → AreBelow n ys → AreBelow n (xs ++ ys)
below_append n [] ys p q = q
below_append n (x ∷ xs) ys p q =
    elim (cases_Bool (nat_lt x n)) [
      | inl low ↦ rw low (below_append n xs ys (rw low at p) q)
      | inr high ↦ absurd (let e = rw high at p in cc)
    ]

pub one_below : (n x : ℕ) → x < n → AreBelow n (x ∷ [])
one_below n x h = let low : nat_lt x n ≡ true = grind (arith, nat_tests) in rw low refl

pub below_mid : (n x : ℕ) (xs ys : List ℕ) → AreBelow n (xs ++ x ∷ ys) → x < n
below_mid n x [] ys h =
    elim (cases_Bool (nat_lt x n)) [
      | inl low ↦ grind (arith, nat_tests)
      | inr high ↦ absurd (let e = rw high at h in cc)
    ]
below_mid n x (y ∷ xs) ys h =
    elim (cases_Bool (nat_lt y n)) [
      | inl low ↦ below_mid n x xs ys (rw low at h)
      | inr high ↦ absurd (let e = rw high at h in cc)
    ]

-- those of some names that have got their bound
abbrev pub ToggledPart : (ts us : Bounds) → (whole rest : List ℕ) → (bound : ℕ) → Type 0
ToggledPart ts us whole rest b = (names : List ℕ) × (names ++ rest ≡ whole) × AreToggled ts us names b

pub part_more : (ts us vs : Bounds) (whole rest rest' : List ℕ) (x b : ℕ) → AreBelow (length ts) whole → rest ≡ x ∷ rest'
    → vs ≡ set us x (bounds_of us x ++ b ∷ []) → ToggledPart ts us whole rest b → ToggledPart ts vs whole rest' b
part_more ts us vs whole rest rest' x b below e s p =
    let names = p.0 in
    let parts : names ++ x ∷ rest' ≡ whole = ap (λ z. names ++ z) (sym e) ∙ p.1 in
    let here : x < length ts = below_mid (length ts) x names rest' (subst (λ z. AreBelow (length ts) z) (sym parts) below) in
    let t : AreToggled ts us names b = p.2 in
    let within : x < length us = let same : length us ≡ length ts = t.size in omega arith in
    (names ++ x ∷ [], append_assoc names (x ∷ []) rest' ∙ parts, more_toggled ts us vs names (x ∷ []) b t (one_toggled us vs x b within s))

-- a name that was needed is not, or the other way round
pub set_now : (ts us : Bounds) (x b : ℕ) (needed : Bool) → needed_now ts x ≡ not needed → AreToggled ts us (x ∷ []) b → (y : ℕ)
    → needed_now us y ≡ (if x == y then needed else needed_now ts y)
set_now ts us x b needed e t y =
    toggled_now ts us (x ∷ []) b y t
    ∙ elim (cases_Bool (x == y)) [
      | inl same ↦
          let s : x ≡ y = eqb-true x y same in
          let n : needed_now ts y ≡ not needed = subst (λ z. needed_now ts z ≡ not needed) s e in
          rw (same, n) (turned needed)
      | inr other ↦ rw other (differ_false (needed_now ts y))
    ]
  where
    turned : (a : Bool) → differ (not a) true ≡ a
    turned true = refl
    turned false = refl
