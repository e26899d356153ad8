-- The names that one of some codes needs.
use Rattle.std.proofs.Common.{◌≡◌, ◌<◌, ℕ, Bool, true, false, not, ◌&&◌, ◌||◌, if◌then◌else◌, List, [], ◌∷◌, refl, sym, ap, ◌∙◌, ◌⊎◌, inl, inr, eqb-true, arith}
use Rattle.std.specs.Prelude.{◌==◌, nat_lt}
use Rattle.std.proofs.lemmas.Bool.{cases_Bool}
use Rattle.std.proofs.lemmas.Bool.Decides.{nat_tests}
use Rattle.a_place.specs.Places.{among}
use Rattle.a_place.specs.Share.{Names}
use Rattle.a_share.specs.Bounds.{differ, is_odd_in, is_as, AreBelow}
use Rattle.a_share.specs.Unions.{IsUnion}
use Rattle.a_share.proofs.Parity.{differ_false}

-- what does not stand in a list stands there an even number of times
pub absent_even : (x : ℕ) (names : List ℕ) → among x names ≡ false → is_odd_in x names ≡ false
absent_even x [] h = refl
absent_even x (y ∷ names) h =
    elim (cases_Bool (y == x)) [
      | inl same ↦ absurd (let e = rw same at h in cc)
      | inr other ↦ rw other (absent_even x names (rw other at h))
    ]

pub below_among : (n x : ℕ) (names : List ℕ) → AreBelow n names → among x names ≡ true → x < n
below_among n x [] b h = absurd cc
below_among n x (y ∷ names) b h =
    elim (cases_Bool (nat_lt y n)) [
      | inl low ↦ elim (cases_Bool (y == x)) [
        | inl same ↦ (let e : y ≡ x = eqb-true y x same in let l : y < n = grind (arith, nat_tests) in omega arith)
        | inr other ↦ below_among n x names (rw low at b) (rw other at h)
      ]
      | inr high ↦ absurd (let e = rw high at b in cc)
    ]

pub among_below : (n : ℕ) (names : List ℕ) → ((x : ℕ) → among x names ≡ true → x < n) → AreBelow n names
among_below n [] h = refl
among_below n (y ∷ names) h =
    let here : y < n = h y (first y names) in
    let low : nat_lt y n ≡ true = grind (arith, nat_tests) in
    rw low (among_below n names (λ x m. h x (later x y names m)))
  where
    first : (y : ℕ) (ys : List ℕ) → among y (y ∷ ys) ≡ true
    first y ys = let e : (y == y) ≡ true = grind (arith, nat_tests) in rw e refl

    later : (x y : ℕ) (ys : List ℕ) → among x ys ≡ true → among x (y ∷ ys) ≡ true
    later x y ys m =
        elim (cases_Bool (y == x)) [
          | inl same ↦ rw same refl
          | inr other ↦ rw other m
        ]

-- a name that did not change is needed as it was
pub same_where : (n m : Bool) (names : List ℕ) (x : ℕ) → m ≡ differ n (is_odd_in x names) → among x names ≡ false → m ≡ n
same_where n m names x e h = e ∙ ap (differ n) (absent_even x names h) ∙ differ_false n

-- of one code
pub union_one : (count : ℕ) (names added dropped : List ℕ) (N M : Names) → AreBelow count names → ((x : ℕ) → M x ≡ differ (N x) (is_odd_in x names))
    → ((x : ℕ) → among x added ≡ ((among x names && is_as true (M x)) || among x []))
    → ((x : ℕ) → among x dropped ≡ ((among x names && is_as false (M x)) || among x [])) → IsUnion count added dropped N M
union_one count names added dropped N M b e a d = record {
  added = λ x h. (both (among x names) (M x) (sym (a x) ∙ h)).1;
  dropped = λ x h. no_of (M x) (both (among x names) (not (M x)) (sym (d x) ∙ h)).1;
  others = λ x h k. same_where (N x) (M x) names x (e x) (none (among x names) (M x) (sym (a x) ∙ h) (sym (d x) ∙ k));
  added_below = λ x h. below_among count x names b (both (among x names) (M x) (sym (a x) ∙ h)).0;
  dropped_below = λ x h. below_among count x names b (both (among x names) (not (M x)) (sym (d x) ∙ h)).0;
}
  where
    both : (p q : Bool) → ((p && q) || false) ≡ true → (p ≡ true) × (q ≡ true)
    both true true h = (refl, refl)
    both true false h = absurd cc
    both false q h = absurd cc

    no_of : (p : Bool) → not p ≡ true → p ≡ false
    no_of true h = absurd cc
    no_of false h = refl

    none : (p q : Bool) → ((p && q) || false) ≡ false → ((p && not q) || false) ≡ false → p ≡ false
    none true true h k = absurd cc
    none true false h k = absurd cc
    none false q h k = refl

-- of one code more
pub union_more : (count : ℕ) (names added dropped added' dropped' : List ℕ) (N S M : Names) → AreBelow count names
    → ((x : ℕ) → M x ≡ differ (N x) (is_odd_in x names)) → ((x : ℕ) → among x added' ≡ ((among x names && is_as true (M x)) || among x added))
    → ((x : ℕ) → among x dropped' ≡ ((among x dropped && is_as false (M x)) || among x [])) → IsUnion count added dropped N S
    → IsUnion count added' dropped' N (λ x. M x || S x)
union_more count names added dropped added' dropped' N S M b e a d u = record {
  added = λ x h.
      elim (either (among x names) (M x) (among x added) (sym (a x) ∙ h)) [
        | inl p ↦ rw (p.1) refl
        | inr q ↦ yes_or (M x) (S x) (u.added x q)
      ];
  dropped = λ x h.
      let p = both (among x dropped) (M x) (sym (d x) ∙ h) in rw (p.1) (u.dropped x p.0);
  others = λ x h k. other (among x names) (among x added) (among x dropped) (M x) (S x) (N x) (sym (a x) ∙ h) (sym (d x) ∙ k)
      (λ g. same_where (N x) (M x) names x (e x) g) (u.dropped x) (u.others x);
  added_below = λ x h.
      elim (either (among x names) (M x) (among x added) (sym (a x) ∙ h)) [
        | inl p ↦ below_among count x names b p.0
        | inr q ↦ u.added_below x q
      ];
  dropped_below = λ x h. u.dropped_below x (both (among x dropped) (M x) (sym (d x) ∙ h)).0;
}
  where
    either : (p q r : Bool) → ((p && q) || r) ≡ true → ((p ≡ true) × (q ≡ true)) ⊎ (r ≡ true)
    either true true r h = inl (refl, refl)
    either true false r h = inr h
    either false q r h = inr h

    both : (p q : Bool) → ((p && not q) || false) ≡ true → (p ≡ true) × (q ≡ false)
    both true true h = absurd cc
    both true false h = (refl, refl)
    both false q h = absurd cc

    yes_or : (p q : Bool) → q ≡ true → (p || q) ≡ true
    yes_or true q h = refl
    yes_or false q h = h

    other : (p c f m s n : Bool) → ((p && m) || c) ≡ false → ((f && not m) || false) ≡ false → (p ≡ false → m ≡ n) → (f ≡ true → s ≡ false)
        → (c ≡ false → f ≡ false → s ≡ n) → (m || s) ≡ n
    other true true f m s n h k x y z = absurd (let e = and_or m h in cc)
      where
        and_or : (m : Bool) → ((true && m) || true) ≡ false → true ≡ false
        and_or true g = g
        and_or false g = g
    other true false f true s n h k x y z = absurd cc
    other true false true false s n h k x y z = absurd cc
    other true false false false s n h k x y z = z refl refl
    other false true f m s n h k x y z = absurd cc
    other false false true true s n h k x y z = x refl
    other false false true false s n h k x y z = absurd cc
    other false false false true s n h k x y z = x refl
    other false false false false s n h k x y z = z refl refl

-- what the union makes of what was needed
pub union_now : (count : ℕ) (added dropped : List ℕ) (N S : Names) (x : ℕ) → IsUnion count added dropped N S
    → (if among x dropped then false else (if among x added then true else N x)) ≡ S x
union_now count added dropped N S x u =
    elim (cases_Bool (among x dropped)) [
      | inl gone ↦ rw gone (sym (u.dropped x gone))
      | inr left ↦ elim (cases_Bool (among x added)) [
        | inl more ↦ rw (left, more) (sym (u.added x more))
        | inr same ↦ rw (left, same) (sym (u.others x same left))
      ]
    ]
