-- The names that start at each position.
use Rattle.std.proofs.Common.{◌≡◌, ◌<◌, ◌≤◌, ℕ, zero, suc, ◌+◌, Bool, true, false, List, [], ◌∷◌, ◌++◌, filter, flat_map, length, get_or, refl, ap, sym, ◌∙◌, inl, inr, length-append, add-one, eqb-true, zero-le, set, ◌≢◌, arith}
use Rattle.std.specs.Prelude.{◌==◌, nat_lt, nat_le, max}
use Rattle.std.proofs.lemmas.Bool.{and_parts, cases_Bool}
use Rattle.std.proofs.lemmas.Bool.Decides.{nat_tests}
use Rattle.std.proofs.lemmas.Grind.{flat_map-append}
use Rattle.std.proofs.lemmas.List.{append-nil, get_or-set_same, get_or-set_other}
use Rattle.std.proofs.lemmas.List.Elements.{filter-append}
use Rattle.g_graph.specs.WellFormed.{some_of, all_of}
use Rattle.val_core.proofs.lemmas.Numbers.{length_numbers}
use Rattle.s_linear.specs.Lines.{Line, line_names, names_below}
use Rattle.val_core.specs.Numbers.{numbers_from}
use Rattle.a_place.specs.Places.{occurs, first, last, above, name_count, starting, in_order, Given, least, count_of, place_for, given, held, places}
use Rattle.a_place.specs.Sweep.{AllStartAt, given_before}
use Rattle.a_place.proofs.Intervals.{first_of_none}
use Rattle.a_place.proofs.Sweeping.{given_append}

-- ---- intervals

first_before_last : (x : ℕ) (lines : List Line) → some_of (occurs x) lines ≡ true → (first x lines ≤ last x lines) × (last x lines < length lines)
first_before_last x [] e = cc
first_before_last x (l ∷ ls) e =
    elim (cases_Bool (some_of (occurs x) ls)) [
      | inl later ↦
          let rest = first_before_last x ls later in
          let starts : first x ls ≤ last x ls = rest.0 in
          let ends : last x ls < length ls = rest.1 in
          elim (cases_Bool (occurs x l)) [
            | inl here ↦ rw (here, later) (omega arith, omega arith)
            | inr other ↦ rw (other, later) (omega arith, omega arith)
          ]
      | inr never ↦
          elim (cases_Bool (occurs x l)) [
            | inl here ↦ rw (here, never) (omega arith, omega arith)
            | inr other ↦ let wrong : true ≡ false = sym (rw (other, never) at e) in cc
          ]
    ]

started : (x p : ℕ) (lines : List Line) → first x lines ≡ p → p < length lines → some_of (occurs x) lines ≡ true
started x p lines e h =
    elim (cases_Bool (some_of (occurs x) lines)) [
      | inl holds ↦ holds
      | inr never ↦ let past : first x lines ≡ length lines = first_of_none x lines never in absurd (omega arith)
    ]

-- ---- the names of a position

filter_at : (test : ℕ → Bool) (from n : ℕ) (xs : List ℕ) → test from ≡ true
    → ((k : ℕ) → k < length xs → (test (get_or xs k 0) ≡ true) × (get_or xs k 0 < suc from + n))
    → (k : ℕ) → k < length (from ∷ xs) → (test (get_or (from ∷ xs) k 0) ≡ true) × (get_or (from ∷ xs) k 0 < from + suc n)
filter_at test from n xs passes rest zero h = (passes, omega arith)
filter_at test from n xs passes rest (suc k) h =
    let r = rest k (omega arith) in let below : get_or xs k 0 < suc from + n = r.1 in (r.0, omega arith)

filter_numbers : (test : ℕ → Bool) (from n k : ℕ) → k < length (filter test (numbers_from from n))
    → (test (get_or (filter test (numbers_from from n)) k 0) ≡ true) × (get_or (filter test (numbers_from from n)) k 0 < from + n)
filter_numbers test from zero k h = absurd (omega arith)
filter_numbers test from (suc n) k h =
    elim (cases_Bool (test from)) [
      | inl passes ↦
          rw passes (filter_at test from n (filter test (numbers_from (suc from) n)) passes (λ j. filter_numbers test (suc from) n j) k (rw passes at h))
      | inr other ↦
          let rest = filter_numbers test (suc from) n k (rw other at h) in
          let below : get_or (filter test (numbers_from (suc from) n)) k 0 < suc from + n = rest.1 in
          rw other (rest.0, omega arith)
    ]

pub starting_below : (lines : List Line) (p k : ℕ) → k < length (starting lines p) → get_or (starting lines p) k 0 < name_count lines
starting_below lines p k h =
    let below : get_or (starting lines p) k 0 < 0 + name_count lines = (filter_numbers (λ x. first x lines == p) 0 (name_count lines) k h).1 in omega arith

starting_first : (lines : List Line) (p k : ℕ) → k < length (starting lines p) → first (get_or (starting lines p) k 0) lines ≡ p
starting_first lines p k h = eqb-true (first (get_or (starting lines p) k 0) lines) p (filter_numbers (λ x. first x lines == p) 0 (name_count lines) k h).0

pub starting_last : (lines : List Line) (p k : ℕ) → p < length lines → k < length (starting lines p) → last (get_or (starting lines p) k 0) lines < length lines
starting_last lines p k room h =
    let x = get_or (starting lines p) k 0 in (first_before_last x lines (started x p lines (starting_first lines p k h) room)).1

pub all_start : (lines : List Line) (p : ℕ) → p < length lines → AllStartAt lines p (starting lines p)
all_start lines p room = λ k h.
    let x = get_or (starting lines p) k 0 in
    let e : first x lines ≡ p = starting_first lines p k h in
    let within : first x lines ≤ last x lines = (first_before_last x lines (started x p lines e room)).0 in
    (e, omega arith)

-- ---- how many there are

passing : (f : ℕ → ℕ) (from : ℕ) (xs : List ℕ)
    → length (filter (λ x. f x == from) xs) + length (filter (λ x. nat_le (suc from) (f x)) xs) ≡ length (filter (λ x. nat_le from (f x)) xs)
passing f from [] = omega arith
passing f from (x ∷ xs) =
    let rest : length (filter (λ x. f x == from) xs) + length (filter (λ x. nat_le (suc from) (f x)) xs) ≡ length (filter (λ x. nat_le from (f x)) xs) =
    passing f from xs in
    elim (cases_Bool (f x == from)) [
      | inl same ↦
          let stops : nat_le (suc from) (f x) ≡ false = grind (arith, nat_tests) in
          let reaches : nat_le from (f x) ≡ true = grind (arith, nat_tests) in
          rw (same, stops, reaches) (omega arith)
      | inr other ↦
          elim (cases_Bool (nat_le from (f x))) [
            | inl reaches ↦ let goes : nat_le (suc from) (f x) ≡ true = grind (arith, nat_tests) in rw (other, goes, reaches) (omega arith)
            | inr before ↦ let stops : nat_le (suc from) (f x) ≡ false = grind (arith, nat_tests) in rw (other, stops, before) rest
          ]
    ]

each_once : (f : ℕ → ℕ) (xs : List ℕ) (from n : ℕ)
    → length (flat_map (λ p. filter (λ x. f x == p) xs) (numbers_from from n)) ≤ length (filter (λ x. nat_le from (f x)) xs)
each_once f xs from zero = zero-le
each_once f xs from (suc n) =
    let rest : length (flat_map (λ p. filter (λ x. f x == p) xs) (numbers_from (suc from) n)) ≤ length (filter (λ x. nat_le (suc from) (f x)) xs) =
    each_once f xs (suc from) n in
    let both = passing f from xs in
    rw length-append (omega (arith, rest, both))

fewer : (test : ℕ → Bool) (xs : List ℕ) → length (filter test xs) ≤ length xs
fewer test [] = zero-le
fewer test (x ∷ xs) =
    let rest : length (filter test xs) ≤ length xs = fewer test xs in
    elim (cases_Bool (test x)) [ inl passes ↦ rw passes (omega arith) | inr other ↦ rw other (omega arith) ]

least_most : (test : ℕ → Bool) (from n : ℕ) → least test from n ≤ from + n
least_most test from zero = omega arith
least_most test from (suc n) =
    let rest : least test (suc from) n ≤ suc from + n = least_most test (suc from) n in
    elim (cases_Bool (test from)) [ inl taken ↦ rw taken (omega arith) | inr free ↦ rw free (omega arith) ]

count_given : (lines : List Line) (xs : List ℕ) (gs : List Given) → count_of (given lines xs gs) ≤ count_of gs + length xs
count_given lines [] gs = omega arith
count_given lines (x ∷ xs) gs =
    let place : place_for lines x gs ≤ 0 + count_of gs = least_most (held lines x gs) 0 (count_of gs) in
    let rest : count_of (given lines xs (record { name = x; place = place_for lines x gs } ∷ gs)) ≤ max (suc (place_for lines x gs)) (count_of gs) + length xs =
    count_given lines xs (record { name = x; place = place_for lines x gs } ∷ gs) in
    omega arith

-- ---- position by position

numbers_more : (from n : ℕ) → numbers_from from (suc n) ≡ numbers_from from n ++ (from + n) ∷ []
numbers_more from zero = ap (λ x. x ∷ []) (omega arith)
numbers_more from (suc n) =
    ap (λ xs. from ∷ xs) (numbers_more (suc from) n ∙ ap (λ x. numbers_from (suc from) n ++ x ∷ []) (omega arith))

names_more : (lines : List Line) (p : ℕ) → flat_map (starting lines) (numbers_from 0 p) ++ starting lines p ≡ flat_map (starting lines) (numbers_from 0 (p + 1))
names_more lines p =
    let earlier = flat_map (starting lines) (numbers_from 0 p) in
    sym
    (ap (λ n. flat_map (starting lines) (numbers_from 0 n)) (add-one p)
    ∙ ap (flat_map (starting lines)) (numbers_more 0 p)
    ∙ flat_map-append (starting lines) (numbers_from 0 p) ((0 + p) ∷ [])
    ∙ ap (λ q. earlier ++ (starting lines q ++ [])) (omega arith)
    ∙ ap (λ xs. earlier ++ xs) (append-nil (starting lines p)))

pub given_more : (lines : List Line) (p : ℕ) → given lines (starting lines p) (given_before lines p) ≡ given_before lines (p + 1)
given_more lines p =
    sym (given_append lines (flat_map (starting lines) (numbers_from 0 p)) (starting lines p) []) ∙ ap (λ xs. given lines xs []) (names_more lines p)

-- the places given before a position and those of its names are no more than there are names
pub room_for : (lines : List Line) (p n count : ℕ) → count ≡ count_of (given_before lines p) → name_count lines ≤ n → count + length (starting lines p) ≤ n
room_for lines p n count e few =
    let earlier = flat_map (starting lines) (numbers_from 0 p) in
    let numbers = numbers_from 0 (name_count lines) in
    let places : count_of (given lines earlier []) ≤ 0 + length earlier = count_given lines earlier [] in
    let joined : length earlier + length (starting lines p) ≡ length (flat_map (starting lines) (numbers_from 0 (p + 1))) =
    sym (length-append earlier (starting lines p)) ∙ ap length (names_more lines p) in
    let once : length (flat_map (starting lines) (numbers_from 0 (p + 1))) ≤ length (filter (λ x. nat_le 0 (first x lines)) numbers) =
    each_once (λ x. first x lines) numbers 0 (p + 1) in
    let fewer_pass : length (filter (λ x. nat_le 0 (first x lines)) numbers) ≤ length numbers = fewer (λ x. nat_le 0 (first x lines)) numbers in
    let all : length numbers ≡ name_count lines = length_numbers 0 (name_count lines) in
    omega arith

-- ---- names below a number

above_below : (n : ℕ) (xs : List ℕ) → all_of (λ x. nat_lt x n) xs ≡ true → above xs ≤ n
above_below n [] e = zero-le
above_below n (x ∷ xs) e =
    let parts = and_parts (nat_lt x n) (all_of (λ x. nat_lt x n) xs) e in
    let rest : above xs ≤ n = above_below n xs parts.1 in
    let here : x < n = grind (arith, nat_tests, parts.0) in
    omega arith

pub few_names : (n : ℕ) (lines : List Line) → all_of (names_below n) lines ≡ true → name_count lines ≤ n
few_names n [] e = zero-le
few_names n (l ∷ ls) e =
    let parts = and_parts (names_below n l) (all_of (names_below n) ls) e in
    let here : above (line_names l) ≤ n = above_below n (line_names l) parts.0 in
    let rest : name_count ls ≤ n = few_names n ls parts.1 in
    omega arith

-- ---- places

pub places_are_few : (n : ℕ) (lines : List Line) → all_of (names_below n) lines ≡ true → (places lines).count ≤ n
places_are_few n lines e =
    let numbers = numbers_from 0 (name_count lines) in
    let given_places : count_of (given lines (in_order lines) []) ≤ 0 + length (in_order lines) = count_given lines (in_order lines) [] in
    let once : length (in_order lines) ≤ length (filter (λ x. nat_le 0 (first x lines)) numbers) = each_once (λ x. first x lines) numbers 0 (length lines) in
    let fewer_pass : length (filter (λ x. nat_le 0 (first x lines)) numbers) ≤ length numbers = fewer (λ x. nat_le 0 (first x lines)) numbers in
    let all : length numbers ≡ name_count lines = length_numbers 0 (name_count lines) in
    let few : name_count lines ≤ n = few_names n lines e in
    omega arith

-- ---- a name more in the lists of names by position

filter_more : (test : ℕ → Bool) (x : ℕ) → filter test (numbers_from 0 (x + 1)) ≡ filter test (numbers_from 0 x) ++ filter test (x ∷ [])
filter_more test x =
    ap (λ n. filter test (numbers_from 0 n)) (add-one x) ∙ ap (filter test) (numbers_more 0 x)
    ∙ filter-append test (numbers_from 0 x) ((0 + x) ∷ []) ∙ ap (λ y. filter test (numbers_from 0 x) ++ filter test (y ∷ [])) (omega arith)

no_more : (f : ℕ → ℕ) (x p : ℕ) → (f x == p) ≡ false → filter (λ y. f y == p) (numbers_from 0 (x + 1)) ≡ filter (λ y. f y == p) (numbers_from 0 x)
no_more f x p other =
    let test : ℕ → Bool = λ y. f y == p in
    let none : filter test (x ∷ []) ≡ [] = rw other refl in
    filter_more test x ∙ ap (λ l. filter test (numbers_from 0 x) ++ l) none ∙ append-nil (filter test (numbers_from 0 x))

put_one : (f : ℕ → ℕ) (lists : List (List ℕ)) (x p : ℕ) → f x < length lists → get_or lists p [] ≡ filter (λ y. f y == p) (numbers_from 0 x)
    → get_or (set lists (f x) (get_or lists (f x) [] ++ x ∷ [])) p [] ≡ filter (λ y. f y == p) (numbers_from 0 (x + 1))
put_one f lists x p room e =
    let test : ℕ → Bool = λ y. f y == p in
    elim (cases_Bool (f x == p)) [
      | inl same ↦
          let here : f x ≡ p = eqb-true (f x) p same in
          let only : filter test (x ∷ []) ≡ x ∷ [] = rw same refl in
          let hit : get_or (set lists (f x) (get_or lists (f x) [] ++ x ∷ [])) p [] ≡ get_or lists (f x) [] ++ x ∷ [] =
          rw (sym here) (get_or-set_same lists (f x) (get_or lists (f x) [] ++ x ∷ []) [] room) in
          hit ∙ ap (λ l. l ++ x ∷ []) (ap (λ q. get_or lists q []) here ∙ e)
          ∙ sym (filter_more test x ∙ ap (λ l. filter test (numbers_from 0 x) ++ l) only)
      | inr other ↦
          let apart : p ≢ f x = grind (arith, nat_tests) in
          get_or-set_other lists (f x) p (get_or lists (f x) [] ++ x ∷ []) [] apart ∙ e ∙ sym (no_more f x p other)
    ]

pub start_put : (f : ℕ → ℕ) (lists new : List (List ℕ)) (x s p : ℕ) → f x ≡ s → s < length lists → new ≡ set lists s (get_or lists s [] ++ x ∷ [])
    → get_or lists p [] ≡ filter (λ y. f y == p) (numbers_from 0 x) → get_or new p [] ≡ filter (λ y. f y == p) (numbers_from 0 (x + 1))
start_put f lists new x s p e room made before = rw (made, sym e) (put_one f lists x p (rw (sym e) at room) before)

pub start_skip : (f : ℕ → ℕ) (list : List ℕ) (x s p end : ℕ) → f x ≡ s → p < end → end ≤ s → list ≡ filter (λ y. f y == p) (numbers_from 0 x)
    → list ≡ filter (λ y. f y == p) (numbers_from 0 (x + 1))
start_skip f list x s p end e room past before = before ∙ sym (no_more f x p (grind (arith, nat_tests)))
