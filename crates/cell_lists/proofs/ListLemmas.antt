-- Cells in lists: a list parts at a cell, no cell stands twice, and how often a cell follows a greater one.
use Rattle.std.proofs.Common.{◌-◌, ne_eqb, ◌≡◌, ◌≢◌, ℕ, zero, suc, ◌+◌, ◌<◌, ◌≤◌, Bool, true, false, eqb, ltb, cond, Option, Some, None, List, [], ◌∷◌, ◌++◌, length, map, refl, ap, sym, ◌∙◌, subst, inl, inr, arith}
use Rattle.std.specs.Prelude.{slice_get, slice_set}
use Rattle.std.specs.List.{IsDistinct, AllByRecursion}
use Rattle.std.proofs.lemmas.Bool.{eqb-true, eq-eqb, or_parts, or_cases, or_left, or_right, or_from, true≢false, false_from_ne_true}
use Rattle.std.proofs.lemmas.List.Folds.{list_any-append}
use Rattle.std.proofs.lemmas.Map.Steps.{length-le_from_distinct_below}
use Rattle.std.proofs.lemmas.Option.{same_Some}
use Rattle.cell_lists.specs.Lists.{AreDistinct, is_in, first_or, last_or, before_in, after_in, without, other_for, fall, falls}

-- an element after a write, at its place and at another
pub slice_get-set_same : {A : Type 0} (xs : List A) (i : ℕ) (x y : A) → slice_get xs i ≡ Some y → slice_get (slice_set xs i x) i ≡ Some x
slice_get-set_same [] i x y h = cc
slice_get-set_same (z ∷ zs) zero x y h = refl
slice_get-set_same (z ∷ zs) (suc i) x y h = slice_get-set_same zs i x y h

pub slice_get-set_other : {A : Type 0} (xs : List A) (i j : ℕ) (x : A) → j ≢ i → slice_get (slice_set xs i x) j ≡ slice_get xs j
slice_get-set_other [] i j x ne = refl
slice_get-set_other (z ∷ zs) zero zero x ne = absurd (ne refl)
slice_get-set_other (z ∷ zs) zero (suc j) x ne = refl
slice_get-set_other (z ∷ zs) (suc i) zero x ne = refl
slice_get-set_other (z ∷ zs) (suc i) (suc j) x ne = slice_get-set_other zs i j x (λ e. ne (ap suc e))

-- the parts of a list before and after a cell in it
pub record PartsAt (c : ℕ) (xs : List ℕ) : Type 0 where
  pub front : List ℕ
  pub back : List ℕ
  pub is : xs ≡ front ++ c ∷ back
  pub apart : is_in c front ≡ false
  pub before : (o : Option ℕ) → before_in o c xs ≡ last_or o front
  pub after : after_in c xs ≡ first_or None back
  pub rest : without c xs ≡ front ++ back

pub parts_at : (c : ℕ) (xs : List ℕ) → is_in c xs ≡ true → PartsAt c xs
parts_at c [] h = cc
parts_at c (x ∷ xs) h = by_test (eqb c x) refl (λ e. parts_at c xs (rw e at h))
  where
    by_test : (t : Bool) → eqb c x ≡ t → (eqb c x ≡ false → PartsAt c xs) → PartsAt c (x ∷ xs)
    by_test true e go = record {
      front = [];
      back = xs;
      is = ap (λ y. y ∷ xs) (sym (eqb-true c x e));
      apart = refl;
      before = λ o. rw e refl;
      after = rw e refl;
      rest = rw e refl;
    }
    by_test false e go =
        let p = go e in
        record {
          front = x ∷ p.front;
          back = p.back;
          is = ap (λ ys. x ∷ ys) p.is;
          apart = or_from _ _ e p.apart;
          before = λ o. rw e (p.before (Some x));
          after = rw e p.after;
          rest = rw e (ap (λ ys. x ∷ ys) p.rest);
        }

-- a list without a cell that is not in it
pub without-outside : (c : ℕ) (xs : List ℕ) → is_in c xs ≡ false → without c xs ≡ xs
without-outside c [] h = refl
without-outside c (x ∷ xs) h =
    let q = or_parts (eqb c x) (is_in c xs) h in
    rw q.0 (ap (λ ys. x ∷ ys) (without-outside c xs q.1))

-- the last of two lists
pub last_or-append : (o : Option ℕ) (xs ys : List ℕ) → last_or o (xs ++ ys) ≡ last_or (last_or o xs) ys
last_or-append o [] ys = refl
last_or-append o (x ∷ xs) ys = last_or-append (Some x) xs ys

pub first_or-append : (o : Option ℕ) (xs ys : List ℕ) → first_or o (xs ++ ys) ≡ first_or (first_or o ys) xs
first_or-append o [] ys = refl
first_or-append o (x ∷ xs) ys = refl

-- the ends of a list are in it
pub last_is_in : (x y : ℕ) (ys : List ℕ) → last_or (Some y) ys ≡ Some x → is_in x (y ∷ ys) ≡ true
last_is_in x y [] h = or_left _ _ (eq-eqb x y (sym (same_Some _ _ h)))
last_is_in x y (z ∷ zs) h = or_right _ _ (last_is_in x z zs h)

pub last_of_in : (x : ℕ) (ys : List ℕ) → last_or None ys ≡ Some x → is_in x ys ≡ true
last_of_in x [] h = cc
last_of_in x (y ∷ ys) h = last_is_in x y ys h

pub first_of_in : (x : ℕ) (ys : List ℕ) → first_or None ys ≡ Some x → is_in x ys ≡ true
first_of_in x [] h = cc
first_of_in x (y ∷ ys) h = or_left _ _ (eq-eqb x y (sym (same_Some _ _ h)))

-- no cell stands twice
pub distinct_parts : (xs ys : List ℕ) → AreDistinct (xs ++ ys) → AreDistinct xs × AreDistinct ys
distinct_parts [] ys d = (tt, d)
distinct_parts (x ∷ xs) ys d =
    let p = distinct_parts xs ys d.1 in
    let q = or_parts _ _ (sym (list_any-append (λ y. eqb x y) xs ys) ∙ d.0) in
    ((q.0, p.0), p.1)

pub distinct_apart : (x : ℕ) (xs ys : List ℕ) → AreDistinct (xs ++ ys) → is_in x xs ≡ true → is_in x ys ≡ false
distinct_apart x [] ys d h = cc
distinct_apart x (z ∷ zs) ys d h =
    elim (or_cases _ _ h) [
      | inl e ↦
          let q = or_parts _ _ (sym (list_any-append (λ y. eqb z y) zs ys) ∙ d.0) in
          let P : ℕ → Type 0 = λ n. is_in n ys ≡ false in
          subst P (sym (eqb-true x z e)) q.1
      | inr e ↦ distinct_apart x zs ys d.1 e
    ]

pub distinct_joined : (xs ys : List ℕ) → AreDistinct xs → AreDistinct ys → ((x : ℕ) → is_in x xs ≡ true → is_in x ys ≡ false) → AreDistinct (xs ++ ys)
distinct_joined [] ys d e apart = e
distinct_joined (x ∷ xs) ys d e apart = (
  list_any-append (λ y. eqb x y) xs ys ∙ or_from _ _ d.0 (apart x (or_left _ _ (eq-eqb x x refl))),
  distinct_joined xs ys d.1 e (λ y h. apart y (or_right _ _ h)),
)

pub distinct_pushed : (xs : List ℕ) (c : ℕ) → AreDistinct xs → is_in c xs ≡ false → AreDistinct (xs ++ c ∷ [])
distinct_pushed xs c d h =
    distinct_joined xs (c ∷ []) d (refl, tt)
    (λ x i.
    false_from_ne_true _ (λ t.
    elim (or_cases _ _ t) [
      | inl e ↦
          let P : ℕ → Type 0 = λ n. is_in n xs ≡ true in
          true≢false (sym (subst P (eqb-true x c e) i) ∙ h)
      | inr e ↦ true≢false (sym e)
    ]))

pub distinct_replaced : (xs ys : List ℕ) (c d : ℕ) → AreDistinct (xs ++ c ∷ ys) → is_in d (xs ++ c ∷ ys) ≡ false → AreDistinct (xs ++ d ∷ ys)
distinct_replaced xs ys c d e free =
    let p = distinct_parts xs (c ∷ ys) e in
    let q = or_parts _ _ (sym (list_any-append (λ y. eqb d y) xs (c ∷ ys)) ∙ free) in
    distinct_joined xs (d ∷ ys) p.0 ((or_parts _ _ q.1).1, p.1.1)
    (λ x i.
    or_from _ _
    (ne_eqb x d (λ r. let P : ℕ → Type 0 = λ n. is_in n xs ≡ true in true≢false (sym (subst P r i) ∙ q.0)))
    (or_parts _ _ (distinct_apart x xs (c ∷ ys) e i)).1)

-- a list in which another cell stands for one
pub others-outside : (c d : ℕ) (xs : List ℕ) → is_in c xs ≡ false → map (other_for c d) xs ≡ xs
others-outside c d [] h = refl
others-outside c d (x ∷ xs) h =
    let q = or_parts (eqb c x) (is_in c xs) h in
    rw q.0 (ap (λ ys. x ∷ ys) (others-outside c d xs q.1))

pub others-at : (c d : ℕ) (xs ys : List ℕ) → is_in c xs ≡ false → is_in c ys ≡ false → map (other_for c d) (xs ++ c ∷ ys) ≡ xs ++ d ∷ ys
others-at c d [] ys h i = rw (eq-eqb c c refl) (ap (λ zs. d ∷ zs) (others-outside c d ys i))
others-at c d (x ∷ xs) ys h i =
    let q = or_parts (eqb c x) (is_in c xs) h in
    rw q.0 (ap (λ zs. x ∷ zs) (others-at c d xs ys q.1 i))

pub distinct_without : (xs ys : List ℕ) (c : ℕ) → AreDistinct (xs ++ c ∷ ys) → AreDistinct (xs ++ ys)
distinct_without xs ys c d =
    let p = distinct_parts xs (c ∷ ys) d in
    distinct_joined xs ys p.0 p.1.1 (λ x h. (or_parts _ _ (distinct_apart x xs (c ∷ ys) d h)).1)

-- distinct cells below n are at most n
outside_all : (x : ℕ) (xs : List ℕ) → is_in x xs ≡ false → AllByRecursion (λ y. eqb x y ≡ false) xs
outside_all x [] h = tt
outside_all x (y ∷ ys) h = let q = or_parts _ _ h in (q.0, outside_all x ys q.1)

are_distinct : (xs : List ℕ) → AreDistinct xs → IsDistinct eqb xs
unfolding IsDistinct
are_distinct [] d = tt
are_distinct (x ∷ xs) d = (outside_all x xs d.0, are_distinct xs d.1)

pub length_distinct : (xs : List ℕ) (n : ℕ) → AreDistinct xs → ((q : ℕ) → is_in q xs ≡ true → q < n) → length xs ≤ n
length_distinct xs n d below = length-le_from_distinct_below xs n (are_distinct xs d) below

-- how often a cell follows a greater one
pub falls-append : (o : Option ℕ) (xs ys : List ℕ) → falls o (xs ++ ys) ≡ falls o xs + falls (last_or o xs) ys
falls-append o [] ys = omega arith
falls-append o (x ∷ xs) ys = omega (arith, falls-append (Some x) xs ys)

pub falls_behind : List ℕ → ℕ
falls_behind [] = 0
falls_behind (x ∷ xs) = falls (Some x) xs

pub falls-first : (o : Option ℕ) (xs : List ℕ) → falls o xs ≡ fall o (first_or None xs) + falls_behind xs
unfolding falls_behind
falls-first None [] = refl
falls-first (Some x) [] = refl
falls-first o (x ∷ xs) = refl

pub fall-le : (o p : Option ℕ) → fall o p ≤ 1
fall-le None p = omega arith
fall-le (Some x) None = omega arith
fall-le (Some x) (Some y) = elim (ltb y x) as (λ t. cond t 1 0 ≤ 1) [ true ↦ omega arith | false ↦ omega arith ]

pub falls-le : (o : Option ℕ) (xs : List ℕ) → falls o xs ≤ length xs
falls-le o [] = omega arith
falls-le o (x ∷ xs) = omega (arith, fall-le o (Some x), falls-le (Some x) xs)

-- the first cell follows none, so it does not fall
pub falls-lt : (xs : List ℕ) → falls None xs ≤ length xs - 1
falls-lt [] = omega arith
falls-lt (x ∷ xs) = omega (arith, falls-le (Some x) xs)

-- elements that differ at one place alone
pub map_same : {A B : Type 0} (f g : A → B) (xs : List A) → ((i : ℕ) (x : A) → slice_get xs i ≡ Some x → f x ≡ g x) → map f xs ≡ map g xs
map_same f g [] h = refl
map_same f g (x ∷ xs) h = let e = h 0 x refl in let t = map_same f g xs (λ i y p. h (suc i) y p) in cc

pub map_set_at : {A B : Type 0} (f g : A → B) (xs : List A) (k : ℕ) (x : A) (y : B) → f x ≡ y → ((i : ℕ) (z : A) → i ≢ k → slice_get xs i ≡ Some z → f z ≡ g z) → map f (slice_set xs k x)
    ≡ slice_set (map g xs) k y
map_set_at f g [] k x y e h = refl
map_set_at f g (z ∷ zs) zero x y e h =
    let t = map_same f g zs (λ i w p. h (suc i) w (omega arith) p) in cc
map_set_at f g (z ∷ zs) (suc k) x y e h =
    let s = h 0 z (omega arith) refl in
    let t = map_set_at f g zs k x y e (λ i w ne p. h (suc i) w (λ q. ne (omega arith)) p) in cc
