-- Lists in ascending order of a number, and what a binary search finds in them.
use Rattle.std.proofs.Common.{◌≡◌, ℕ, zero, suc, ◌<◌, ◌≤◌, ◌++◌, true, List, [], ◌∷◌, length, get_or, map, Ok, Err, refl, sym, ap, inl, inr, arith}
use Rattle.std.specs.Prelude.{◌&&◌, nat_le}
use Rattle.std.specs.List.Sorted.{IsSearchInRange, IsBinarySearchResult, IsNonDecreasingBy}
use Rattle.std.specs.Ordering.{nat_cmp, ordering_index}
use Rattle.std.proofs.lemmas.Cmp.{ranked}
use Rattle.std.proofs.lemmas.Bool.{cases_lt}
use Rattle.std.proofs.lemmas.Bool.Decides.{nat_tests}
use Rattle.val_core.specs.Numbers.{numbers_from}
use Rattle.c_interp_store.specs.Ascending.{ascends, IsFoundAt, IsAbsent}

-- the first is not below `from`, and the others ascend from it
pub first_ascends : {X : Type 0} (key : X → ℕ) (from : ℕ) (x : X) (xs : List X) → ascends key from (x ∷ xs) ≡ true → (from ≤ key x) × (ascends key (suc (key x)) xs ≡ true)
first_ascends key from x xs h = (grind (arith, nat_tests), grind (arith, nat_tests))

pub ascends_first : {X : Type 0} (key : X → ℕ) (from : ℕ) (x : X) (xs : List X) → from ≤ key x → ascends key (suc (key x)) xs ≡ true → ascends key from (x ∷ xs) ≡ true
ascends_first key from x xs le h = grind (arith, nat_tests)

pub ascends_lower : {X : Type 0} (key : X → ℕ) (low from : ℕ) (xs : List X) → low ≤ from → ascends key from xs ≡ true → ascends key low xs ≡ true
ascends_lower key low from [] le h = refl
ascends_lower key low from (x ∷ xs) le h =
    let f = first_ascends key from x xs h in
    ascends_first key low x xs (omega (arith, f.0)) f.1

module _ {X : Type 0} (key : X → ℕ) where
  pub is_above : (from : ℕ) (xs : List X) (i : ℕ) (d : X) → ascends key from xs ≡ true → i < length xs → from ≤ key (get_or xs i d)
  is_above from [] i d h lt = absurd (omega arith)
  is_above from (x ∷ xs) zero d h lt = (first_ascends key from x xs h).0
  is_above from (x ∷ xs) (suc i) d h lt =
      let f = first_ascends key from x xs h in
      let r = is_above (suc (key x)) xs i d f.1 (omega arith) in
      omega (arith, f.0, r)

  pub rises : (from : ℕ) (xs : List X) (i j : ℕ) (d : X) → ascends key from xs ≡ true → i < j → j < length xs → key (get_or xs i d) < key (get_or xs j d)
  rises from [] i j d h lt in_range = absurd (omega arith)
  rises from (x ∷ xs) i zero d h lt in_range = absurd (omega arith)
  rises from (x ∷ xs) zero (suc j) d h lt in_range = is_above (suc (key x)) xs j d (first_ascends key from x xs h).1 (omega arith)
  rises from (x ∷ xs) (suc i) (suc j) d h lt in_range = rises (suc (key x)) xs i j d (first_ascends key from x xs h).1 (omega arith) (omega arith)

  rises_or_same : (from : ℕ) (xs : List X) (i j : ℕ) (d : X) → ascends key from xs ≡ true → i ≤ j → j < length xs → key (get_or xs i d) ≤ key (get_or xs j d)
  rises_or_same from xs i j d h le in_range = grind (arith, rises from xs i j d h, λ (same : i ≡ j). ap (λ k. key (get_or xs k d)) same)

  pub only_one : (from : ℕ) (xs : List X) (i j : ℕ) (d : X) → ascends key from xs ≡ true → i < length xs → j < length xs → key (get_or xs i d) ≡ key (get_or xs j d) → i ≡ j
  only_one from xs i j d h lt in_range same = grind (arith, rises from xs i j d h, rises from xs j i d h)

  -- the comparisons with a number rise along the list, as a binary search asks
  comparisons_rise : (xs : List X) (n : ℕ) → ascends key 0 xs ≡ true → IsNonDecreasingBy (λ x. ordering_index (nat_cmp (key x) n)) xs
  comparisons_rise xs n h i j d le in_range =
      let keys : key (get_or xs i d) ≤ key (get_or xs j d) = rises_or_same 0 xs i j d h le in_range in
      index_rises (key (get_or xs i d)) (key (get_or xs j d)) n keys
    where
      index_rises : (a b n : ℕ) → a ≤ b → ordering_index (nat_cmp a n) ≤ ordering_index (nat_cmp b n)
      index_rises a b n le = grind (arith, nat_tests)

  -- a binary search finds the number,
  pub found : (xs : List X) (n i : ℕ) → IsSearchInRange (Ok i) (length xs) → IsBinarySearchResult (λ x. nat_cmp (key x) n) xs (Ok i) → IsFoundAt key xs n i
  found xs n i in_range equal = record { inside = in_range; number_is = λ d. ranked _ n _ (sym (equal d)) }

  -- or none has it
  pub absent : (xs : List X) (n i : ℕ) → IsBinarySearchResult (λ x. nat_cmp (key x) n) xs (Err i) → ascends key 0 xs ≡ true → IsAbsent key xs n
  absent xs n i parted h j d in_range same =
      let p = parted (comparisons_rise xs n h) in
      elim (cases_lt j i) [
        | inl lt ↦ let r : key (get_or xs j d) < n = ranked _ n _ (sym (p.0 j d (omega arith) lt)) in omega (arith, r, same)
        | inr le ↦ let r : n < key (get_or xs j d) = ranked _ n _ (sym (p.1 j d le in_range)) in omega (arith, r, same)
      ]

-- ---- lists put together

pub ascends_map : {X : Type 0} (key : X → ℕ) (from : ℕ) (xs : List X) → ascends key from xs ≡ ascends (λ n. n) from (map key xs)
ascends_map key from [] = refl
ascends_map key from (x ∷ xs) = ap (λ b. nat_le from (key x) && b) (ascends_map key (suc (key x)) xs)

abbrev pub AreBelow : (bound : ℕ) → List ℕ → Type 0
AreBelow bound [] = Unit {0}
AreBelow bound (n ∷ ns) = (n < bound) × AreBelow bound ns

-- numbers below a bound, and then those from it on
pub ascends_append : (from bound : ℕ) (ns ms : List ℕ) → ascends (λ n. n) from ns ≡ true → AreBelow bound ns → from ≤ bound → ascends (λ n. n) bound ms ≡ true → ascends (λ n. n) from (ns ++ ms) ≡ true
ascends_append from bound [] ms h below le k = ascends_lower (λ n. n) from bound ms le k
ascends_append from bound (n ∷ ns) ms h below le k =
    let f = first_ascends (λ n. n) from n ns h in
    ascends_first (λ n. n) from n (ns ++ ms) f.0 (ascends_append (suc n) bound ns ms f.1 below.1 (omega (arith, below.0)) k)

pub numbers_ascend : (first count : ℕ) → ascends (λ n. n) first (numbers_from first count) ≡ true
numbers_ascend first zero = refl
numbers_ascend first (suc n) = ascends_first (λ n. n) first first (numbers_from (suc first) n) (omega arith) (numbers_ascend (suc first) n)
