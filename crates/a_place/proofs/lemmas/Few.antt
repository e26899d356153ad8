-- There are no more saved registers and words than 27 and the numbers below which all names are.
use Rattle.std.proofs.Common.{◌≡◌, ◌<◌, ◌≤◌, ◌⊎◌, ℕ, zero, suc, ◌+◌, Bool, true, false, ◌&&◌, List, [], ◌∷◌, ◌++◌, map, filter, flat_map, length, length-append, refl, ◌∙◌, inl, inr, arith, eqb-true, zero-le}
use Rattle.std.specs.Prelude.{◌==◌, nat_lt, nat_le}
use Rattle.std.proofs.lemmas.Bool.{and_parts, cases_Bool}
use Rattle.std.proofs.lemmas.Bool.Decides.{nat_tests}
use Rattle.g_graph.specs.WellFormed.{all_of}
use Rattle.val_core.specs.Numbers.{numbers_from}
use Rattle.val_core.proofs.lemmas.Numbers.{length_numbers}
use Rattle.a_place.specs.Places.{among, above, Given}
use Rattle.a_place.specs.Share.{Site, sites, all_names, depth_of, down_from, greatest, depth_of_site, partners, fits, places_of, candidates, first_of, next_place, place_for, given, in_order, counted_for, count_of}
use Rattle.a_place.specs.ShareLaws.{SharedPlacesAreFew}

-- ---- each name once

not_both : (a b : Bool) → b ≡ false → (a && b) ≡ false
not_both true b e = e
not_both false b e = refl

-- of these names no more have a depth than those up to it and not those up to the one before
level_fits : (A : ℕ → Bool) (D : ℕ → ℕ) (m : ℕ) (xs : List ℕ)
    → length (filter (λ x. A x && (D x == suc m)) xs) + length (filter (λ x. nat_le (D x) m) xs) ≤ length (filter (λ x. nat_le (D x) (suc m)) xs)
level_fits A D m [] = omega arith
level_fits A D m (x ∷ xs) =
    let rest : length (filter (λ x. A x && (D x == suc m)) xs) + length (filter (λ x. nat_le (D x) m) xs) ≤ length (filter (λ x. nat_le (D x) (suc m)) xs) =
    level_fits A D m xs in
    elim (cases_Bool (nat_le (D x) m)) [
      | inl low ↦
          let other : (D x == suc m) ≡ false = grind (arith, nat_tests) in
          let under : nat_le (D x) (suc m) ≡ true = grind (arith, nat_tests) in
          let apart : (A x && (D x == suc m)) ≡ false = not_both (A x) (D x == suc m) other in
          rw (apart, low, under) (omega arith)
      | inr high ↦
          elim (cases_Bool (D x == suc m)) [
            | inl same ↦
                let under : nat_le (D x) (suc m) ≡ true = grind (arith, nat_tests) in
                elim (cases_Bool (A x && (D x == suc m))) [
                  | inl holds ↦ rw (holds, high, under) (omega arith)
                  | inr fails ↦ rw (fails, high, under) (omega arith)
                ]
            | inr other ↦
                let apart : (A x && (D x == suc m)) ≡ false = not_both (A x) (D x == suc m) other in
                elim (cases_Bool (nat_le (D x) (suc m))) [
                  | inl under ↦ rw (apart, high, under) (omega arith)
                  | inr over ↦ rw (apart, high, over) (omega arith)
                ]
          ]
    ]

lowest_fits : (A : ℕ → Bool) (D : ℕ → ℕ) (xs : List ℕ) → length (filter (λ x. A x && (D x == zero)) xs) ≤ length (filter (λ x. nat_le (D x) zero) xs)
lowest_fits A D [] = omega arith
lowest_fits A D (x ∷ xs) =
    let rest : length (filter (λ x. A x && (D x == zero)) xs) ≤ length (filter (λ x. nat_le (D x) zero) xs) = lowest_fits A D xs in
    elim (cases_Bool (A x && (D x == zero))) [
      | inl holds ↦
          let same : D x ≡ zero = eqb-true (D x) zero (and_parts (A x) (D x == zero) holds).1 in
          let under : nat_le (D x) zero ≡ true = grind (arith, nat_tests) in
          rw (holds, under) (omega arith)
      | inr fails ↦
          elim (cases_Bool (nat_le (D x) zero)) [
            | inl under ↦ rw (fails, under) (omega arith)
            | inr over ↦ rw (fails, over) (omega arith)
          ]
    ]

abbrev at_depth : (A : ℕ → Bool) (D : ℕ → ℕ) (xs : List ℕ) → ℕ → List ℕ
at_depth A D xs d = filter (λ x. A x && (D x == d)) xs

each_once : (A : ℕ → Bool) (D : ℕ → ℕ) (xs : List ℕ) (m : ℕ) → length (flat_map (at_depth A D xs) (down_from m)) ≤ length (filter (λ x. nat_le (D x) m) xs)
each_once A D xs zero =
    let low : length (filter (λ x. A x && (D x == zero)) xs) ≤ length (filter (λ x. nat_le (D x) zero) xs) = lowest_fits A D xs in
    let joined : length (at_depth A D xs zero ++ []) ≡ length (at_depth A D xs zero) + 0 = length-append (at_depth A D xs zero) [] in
    omega arith
each_once A D xs (suc m) =
    let rest : length (flat_map (at_depth A D xs) (down_from m)) ≤ length (filter (λ x. nat_le (D x) m) xs) = each_once A D xs m in
    let level : length (at_depth A D xs (suc m)) + length (filter (λ x. nat_le (D x) m) xs) ≤ length (filter (λ x. nat_le (D x) (suc m)) xs) =
    level_fits A D m xs in
    let joined : length (at_depth A D xs (suc m) ++ flat_map (at_depth A D xs) (down_from m)) ≡ length (at_depth A D xs (suc m)) + length (flat_map (at_depth A D xs) (down_from m)) =
    length-append (at_depth A D xs (suc m)) (flat_map (at_depth A D xs) (down_from m)) in
    omega arith

fewer : (test : ℕ → Bool) (xs : List ℕ) → length (filter test xs) ≤ length xs
fewer test [] = zero-le
fewer test (x ∷ xs) =
    let rest : length (filter test xs) ≤ length xs = fewer test xs in
    elim (cases_Bool (test x)) [
      | inl passes ↦ rw passes (omega arith)
      | inr fails ↦ rw fails (omega arith)
    ]

order_fits : (ss : List Site) (names : List ℕ) → length (in_order ss names) ≤ above names
order_fits ss names =
    let numbers = numbers_from 0 (above names) in
    let m = greatest (map depth_of_site ss) in
    let once : length (in_order ss names) ≤ length (filter (λ x. nat_le (depth_of ss x) m) numbers) =
    each_once (λ x. among x names) (depth_of ss) numbers m in
    let fewer_pass : length (filter (λ x. nat_le (depth_of ss x) m) numbers) ≤ length numbers = fewer (λ x. nat_le (depth_of ss x) m) numbers in
    let all : length numbers ≡ above names = length_numbers 0 (above names) in
    omega arith

above_below : (n : ℕ) (xs : List ℕ) → all_of (λ x. nat_lt x n) xs ≡ true → above xs ≤ n
above_below n [] e = zero-le
above_below n (x ∷ xs) e =
    let parts = and_parts (nat_lt x n) (all_of (λ x. nat_lt x n) xs) e in
    let rest : above xs ≤ n = above_below n xs parts.1 in
    let here : x < n = grind (arith, nat_tests, parts.0) in
    omega arith

-- ---- places below 31, and the others one after the other

abbrev are_shared : List ℕ → Bool
are_shared ps = all_of (λ p. nat_lt p 31) ps

shared_append : (ps qs : List ℕ) → are_shared ps ≡ true → are_shared qs ≡ true → are_shared (ps ++ qs) ≡ true
shared_append [] qs a b = b
shared_append (p ∷ ps) qs a b =
    let parts = and_parts (nat_lt p 31) (are_shared ps) a in
    rw (parts.0, shared_append ps qs parts.1 b) refl

shared_filter : (ps : List ℕ) → are_shared (filter (λ p. nat_lt p 31) ps) ≡ true
shared_filter [] = refl
shared_filter (p ∷ ps) =
    elim (cases_Bool (nat_lt p 31)) [
      | inl low ↦ rw low (rw (low, shared_filter ps) refl)
      | inr high ↦ rw high (shared_filter ps)
    ]

candidates_shared : (ss : List Site) (x : ℕ) (gs : List Given) → are_shared (candidates ss x gs) ≡ true
candidates_shared ss x gs =
    let before = filter (λ p. nat_lt p 31) (flat_map (places_of gs) (partners ss x)) in
    shared_append (before ++ numbers_from 11 4 ++ numbers_from 0 11) (numbers_from 15 16)
    (shared_append (before ++ numbers_from 11 4) (numbers_from 0 11)
    (shared_append before (numbers_from 11 4) (shared_filter (flat_map (places_of gs) (partners ss x))) refl) refl) refl

first_shared : (test : ℕ → Bool) (ps : List ℕ) (n : ℕ) → are_shared ps ≡ true → (first_of test ps n < 31) ⊎ (first_of test ps n ≡ n)
first_shared test [] n e = inr refl
first_shared test (p ∷ ps) n e =
    let parts = and_parts (nat_lt p 31) (are_shared ps) e in
    elim (cases_Bool (test p)) [
      | inl passes ↦ rw passes (inl (grind (arith, nat_tests, parts.0)))
      | inr fails ↦ rw fails (first_shared test ps n parts.1)
    ]

counted_below : (p n : ℕ) → p ≤ 30 + n → counted_for p ≤ 27 + n
counted_below p n h =
    elim (cases_Bool (nat_lt p 11)) [
      | inl low ↦ rw low (grind (arith, nat_tests))
      | inr other ↦
          elim (cases_Bool (nat_lt p 15)) [
            | inl lost ↦ rw (other, lost) (omega arith)
            | inr word ↦ rw (other, word) (omega arith)
          ]
    ]

record IsFew (gs : List Given) : Type 0 where
  next : next_place gs ≤ 31 + length gs
  count : count_of gs ≤ 27 + length gs

few_next : (params : ℕ) (ss : List Site) (x : ℕ) (gs : List Given) → IsFew gs → IsFew (record { name = x; place = place_for params ss x gs } ∷ gs)
few_next params ss x gs a =
    let p = place_for params ss x gs in
    let below : p ≤ 31 + length gs =
    elim (first_shared (fits params ss x gs) (candidates ss x gs) (next_place gs) (candidates_shared ss x gs)) [
      | inl low ↦ omega arith
      | inr next ↦ let h : next_place gs ≤ 31 + length gs = a.next in omega arith
    ] in
    let counted : counted_for p ≤ 27 + suc (length gs) = counted_below p (suc (length gs)) (omega arith) in
    let h : next_place gs ≤ 31 + length gs = a.next in
    let k : count_of gs ≤ 27 + length gs = a.count in
    record { next = omega arith; count = omega arith }

few_given : (params : ℕ) (ss : List Site) (xs : List ℕ) (gs : List Given) → IsFew gs → IsFew (given params ss xs gs)
few_given params ss [] gs a = a
few_given params ss (x ∷ xs) gs a =
    few_given params ss xs (record { name = x; place = place_for params ss x gs } ∷ gs) (few_next params ss x gs a)

length_given : (params : ℕ) (ss : List Site) (xs : List ℕ) (gs : List Given) → length (given params ss xs gs) ≡ length xs + length gs
length_given params ss [] gs = omega arith
length_given params ss (x ∷ xs) gs =
    length_given params ss xs (record { name = x; place = place_for params ss x gs } ∷ gs) ∙ omega arith

pub shared_places_are_few : SharedPlacesAreFew
shared_places_are_few n f e =
    let xs = in_order (sites f) (all_names f) in
    let none : IsFew [] = record { next = omega arith; count = omega arith } in
    let few : count_of (given f.params (sites f) xs []) ≤ 27 + length (given f.params (sites f) xs []) = (few_given f.params (sites f) xs [] none).count in
    let long : length (given f.params (sites f) xs []) ≡ length xs + 0 = length_given f.params (sites f) xs [] in
    let order : length xs ≤ above (all_names f) = order_fits (sites f) (all_names f) in
    let small : above (all_names f) ≤ n = above_below n (all_names f) e in
    omega arith
