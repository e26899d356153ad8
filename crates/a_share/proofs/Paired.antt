-- Segments made of bounds in ascending order.
use Rattle.std.proofs.Common.{◌≡◌, ◌<◌, ◌≤◌, ℕ, suc, ◌+◌, ◌-◌, Bool, true, false, not, ◌&&◌, if◌then◌else◌, List, [], ◌∷◌, ◌++◌, length, get_or, refl, sym, ap, ◌∙◌, subst, inl, inr, arith}
use Rattle.std.specs.Prelude.{◌==◌, nat_lt, nat_le, min, Contains}
use Rattle.std.proofs.lemmas.Bool.{cases_Bool}
use Rattle.std.proofs.lemmas.Bool.Decides.{nat_tests}
use Rattle.std.proofs.lemmas.List.Elements.{Contains-append_cases}
use Rattle.std.proofs.lemmas.List.Sorted.{IsNonDecreasingBy-from_sort}
use Rattle.std.specs.List.Sorted.{IsSorted, IsNonDecreasingBy}
use Rattle.std.specs.Ordering.{nat_cmp}
use Rattle.a_place.specs.Places.{among}
use Rattle.a_share.specs.Bounds.{differ, odd_of}
use Rattle.a_share.specs.Pairs.{segment_of, pairs}
use Rattle.a_share.specs.Walk.{has, count_if}
use Rattle.a_share.specs.declared.walk.Segment.{Segment}

abbrev AllFrom : (x : ℕ) → List ℕ → Type 0
AllFrom x [] = Unit {0}
AllFrom x (y ∷ ys) = (x ≤ y) × AllFrom x ys

abbrev pub Ascends : List ℕ → Type 0
Ascends [] = Unit {0}
Ascends (x ∷ xs) = AllFrom x xs × Ascends xs

all_from : (x : ℕ) (ys : List ℕ) → ((j : ℕ) → j < length ys → x ≤ get_or ys j 0) → AllFrom x ys
all_from x [] h = tt
all_from x (y ∷ ys) h = (h 0 (omega arith), all_from x ys (λ j l. h (suc j) (omega arith)))

pub ascends_from : (xs : List ℕ) → IsNonDecreasingBy (λ x. x) xs → Ascends xs
ascends_from [] h = tt
ascends_from (x ∷ xs) h =
    (all_from x xs (λ j l. h 0 (suc j) 0 (omega arith) (omega arith)), ascends_from xs (λ i j d a b. h (suc i) (suc j) d (omega arith) (omega arith)))

pub ascends_sorted : (xs : List ℕ) → IsSorted nat_cmp xs → Ascends xs
ascends_sorted xs h = ascends_from xs (IsNonDecreasingBy-from_sort (λ x. x) xs h)

-- all of them pass
all_pass : (i x : ℕ) (ts : List ℕ) → i < x → AllFrom x ts → odd_of (nat_le (suc i)) ts ≡ odd_of (nat_le 0) ts
all_pass i x [] h a = refl
all_pass i x (t ∷ ts) h a =
    let low : x ≤ t = a.0 in
    let one : nat_le (suc i) t ≡ true = grind (arith, nat_tests) in
    let two : nat_le 0 t ≡ true = grind (arith, nat_tests) in
    rw (one, two) (ap not (all_pass i x ts h a.1))

two_pass : (x y : ℕ) (ts : List ℕ) → odd_of (nat_le 0) (x ∷ y ∷ ts) ≡ odd_of (nat_le 0) ts
two_pass x y ts =
    let one : nat_le 0 x ≡ true = grind (arith, nat_tests) in
    let two : nat_le 0 y ≡ true = grind (arith, nat_tests) in
    rw (one, two) (twice (odd_of (nat_le 0) ts))
  where
    twice : (b : Bool) → not (not b) ≡ b
    twice true = refl
    twice false = refl

-- a position is in the segment of two bounds
in_segment : (e i x y : ℕ) (ss : List Segment) → i < e
    → count_if (has i) (segment_of e x y ++ ss) ≡ (if nat_le x i && nat_lt i y then 1 else 0) + count_if (has i) ss
in_segment e i x y ss h =
    elim (cases_Bool (nat_lt x (min y e))) [
      | inl there ↦
          (let less : x < min y e = grind (arith, nat_tests) in
          elim (cases_Bool (nat_lt i y)) [
            | inl before ↦
                (let low : i < y = grind (arith, nat_tests) in
                let t : nat_le i (min y e - 1) ≡ true = grind (arith, nat_tests) in rw (there, before, t) refl)
            | inr after ↦
                (let high : y ≤ i = grind (arith, nat_tests) in
                let t : nat_le i (min y e - 1) ≡ false = grind (arith, nat_tests) in rw (there, after, t) refl)
          ])
      | inr none ↦
          (let more : min y e ≤ x = grind (arith, nat_tests) in
          elim (cases_Bool (nat_le x i)) [
            | inl low ↦
                (let l : x ≤ i = grind (arith, nat_tests) in
                let t : nat_lt i y ≡ false = grind (arith, nat_tests) in rw (none, low, t) (omega arith))
            | inr high ↦ rw (none, high) (omega arith)
          ])
    ]

-- So many segments have a position: 1 where an odd number of bounds is greater, and else none.
pub paired_need : (e i : ℕ) (ts : List ℕ) → Ascends ts → odd_of (nat_le 0) ts ≡ false → i < e
    → count_if (has i) (pairs e ts) ≡ (if odd_of (nat_le (suc i)) ts then 1 else 0)
paired_need e i [] a p h = refl
paired_need e i (x ∷ []) a p h = absurd (let t : nat_le 0 x ≡ true = grind (arith, nat_tests) in let q = rw t at p in cc)
paired_need e i (x ∷ y ∷ ts) a p h =
    let rest = paired_need e i ts a.1.1 (sym (two_pass x y ts) ∙ p) h in
    let order : x ≤ y = a.0.0 in
    in_segment e i x y (pairs e ts) h ∙ ap (λ z. (if nat_le x i && nat_lt i y then 1 else 0) + z) rest
    ∙ elim (cases_Bool (nat_lt i x)) [
      | inl first ↦
          (let l : i < x = grind (arith, nat_tests) in
          let none : nat_le x i ≡ false = grind (arith, nat_tests) in
          let one : nat_le (suc i) x ≡ true = grind (arith, nat_tests) in
          let two : nat_le (suc i) y ≡ true = grind (arith, nat_tests) in
          outside (nat_le x i) (nat_le (suc i) x) (nat_le (suc i) y) (nat_lt i y) (odd_of (nat_le (suc i)) ts) none one two)
      | inr later ↦
          (let l : x ≤ i = grind (arith, nat_tests) in
          let in_x : nat_le x i ≡ true = grind (arith, nat_tests) in
          let one : nat_le (suc i) x ≡ false = grind (arith, nat_tests) in
          elim (cases_Bool (nat_lt i y)) [
            | inl before ↦
                (let m : i < y = grind (arith, nat_tests) in
                let two : nat_le (suc i) y ≡ true = grind (arith, nat_tests) in
                let none : odd_of (nat_le (suc i)) ts ≡ false = all_pass i y ts m a.1.0 ∙ sym (two_pass x y ts) ∙ p in
                within (nat_le x i) (nat_le (suc i) x) (nat_le (suc i) y) (nat_lt i y) (odd_of (nat_le (suc i)) ts) in_x before one two none)
            | inr after ↦
                (let m : y ≤ i = grind (arith, nat_tests) in
                let two : nat_le (suc i) y ≡ false = grind (arith, nat_tests) in
                beyond (nat_le x i) (nat_le (suc i) x) (nat_le (suc i) y) (nat_lt i y) (odd_of (nat_le (suc i)) ts) after one two)
          ])
    ]
  where
    outside : (p q r s o : Bool) → p ≡ false → q ≡ true → r ≡ true → (if p && s then 1 else 0) + (if o then 1 else 0) ≡ (if differ q (differ r o) then 1 else 0)
    outside true q r s o e f g = absurd cc
    outside false false r s o e f g = absurd cc
    outside false true false s o e f g = absurd cc
    outside false true true s true e f g = refl
    outside false true true s false e f g = refl

    within : (p q r s o : Bool) → p ≡ true → s ≡ true → q ≡ false → r ≡ true → o ≡ false
        → (if p && s then 1 else 0) + (if o then 1 else 0) ≡ (if differ q (differ r o) then 1 else 0)
    within false q r s o e f g h i = absurd cc
    within true q r false o e f g h i = absurd cc
    within true true r true o e f g h i = absurd cc
    within true false false true o e f g h i = absurd cc
    within true false true true true e f g h i = absurd cc
    within true false true true false e f g h i = refl

    beyond : (p q r s o : Bool) → s ≡ false → q ≡ false → r ≡ false → (if p && s then 1 else 0) + (if o then 1 else 0) ≡ (if differ q (differ r o) then 1 else 0)
    beyond p q r true o e f g = absurd cc
    beyond p true r false o e f g = absurd cc
    beyond p false true false o e f g = absurd cc
    beyond true false false false true e f g = refl
    beyond true false false false false e f g = refl
    beyond false false false false true e f g = refl
    beyond false false false false false e f g = refl

-- no bound stands within a segment
not_among : (i x : ℕ) (ts : List ℕ) → i < x → AllFrom x ts → among i ts ≡ false
not_among i x [] h a = refl
not_among i x (t ∷ ts) h a =
    let low : x ≤ t = a.0 in
    let other : (t == i) ≡ false = grind (arith, nat_tests) in rw other (not_among i x ts h a.1)

segment_bounds : (e x y : ℕ) (s : Segment) → Contains (segment_of e x y) s → (s.first ≡ x) × (s.last < y)
segment_bounds e x y s c =
    elim (cases_Bool (nat_lt x (min y e))) [
      | inl there ↦
          (let less : x < min y e = grind (arith, nat_tests) in
          one (rw there at c) less)
      | inr none ↦ absurd (let d = rw none at c in no d)
    ]
  where
    no : Contains {X = Segment} [] s → ⊥
    no d = let l : d.0 < 0 = d.1 in absurd (omega arith)

    one : Contains (record { first = x; last = min y e - 1 } ∷ []) s → x < min y e → (s.first ≡ x) × (s.last < y)
    one d less =
        let zero' : d.0 ≡ 0 = (let l : d.0 < 1 = d.1 in omega arith) in
        let same : record { first = x; last = min y e - 1 } ≡ s = subst (λ k. get_or (record { first = x; last = min y e - 1 } ∷ []) k s ≡ s) zero' d.2 in
        (sym (ap (λ z. z.first) same), (let l : min y e - 1 ≡ s.last = ap (λ z. z.last) same in omega arith))

segment_from : (e : ℕ) (x : ℕ) (ts : List ℕ) (s : Segment) → Ascends ts → AllFrom x ts → Contains (pairs e ts) s → x ≤ s.first
segment_from e x [] s a f c = let l : c.0 < 0 = c.1 in absurd (omega arith)
segment_from e x (t ∷ []) s a f c = let l : c.0 < 0 = c.1 in absurd (omega arith)
segment_from e x (t ∷ u ∷ ts) s a f c =
    elim (Contains-append_cases (segment_of e t u) (pairs e ts) s c) [
      | inl here ↦ (let b = segment_bounds e t u s here in let q : s.first ≡ t = b.0 in let l : x ≤ t = f.0 in omega arith)
      | inr later ↦ segment_from e x ts s a.1.1 f.1.1 later
    ]

pub paired_begun : (e : ℕ) (ts : List ℕ) (s : Segment) (i : ℕ) → Ascends ts → Contains (pairs e ts) s → s.first < i → i ≤ s.last → among i ts ≡ false
paired_begun e [] s i a c low high = refl
paired_begun e (x ∷ []) s i a c low high = let l : c.0 < 0 = c.1 in absurd (omega arith)
paired_begun e (x ∷ y ∷ ts) s i a c low high =
    elim (Contains-append_cases (segment_of e x y) (pairs e ts) s c) [
      | inl here ↦
          (let b = segment_bounds e x y s here in
          let first : s.first ≡ x = b.0 in
          let last : s.last < y = b.1 in
          let one : (x == i) ≡ false = grind (arith, nat_tests) in
          let two : (y == i) ≡ false = grind (arith, nat_tests) in
          let less : i < y = omega arith in
          rw (one, two) (not_among i y ts less a.1.0))
      | inr later ↦
          (let from : y ≤ s.first = segment_from e y ts s a.1.1 a.1.0 later in
          let order : x ≤ y = a.0.0 in
          let one : (x == i) ≡ false = grind (arith, nat_tests) in
          let two : (y == i) ≡ false = grind (arith, nat_tests) in
          rw (one, two) (paired_begun e ts s i a.1.1 later low high))
    ]

pub pairs_short : (e : ℕ) (ts : List ℕ) → length ts < 2 → pairs e ts ≡ []
pairs_short e [] h = refl
pairs_short e (x ∷ []) h = refl
pairs_short e (x ∷ y ∷ ts) h = absurd (omega arith)
