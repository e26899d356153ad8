-- The longest run at the front that passes a test.
use Rattle.std.proofs.Common.{◌≡◌, ℕ, ◌≤◌, Bool, true, false, cond, not, ltb, List, [], ◌∷◌, length, Some, None, refl, ◌∙◌, arith, inl, inr}
use Rattle.std.specs.Option.{unwrap_or}
use Rattle.std.specs.List.{prefix_len, position_or_len}
use Rattle.std.proofs.lemmas.Bool.{cases_lt, lt-ltb, le-ltb}
use Rattle.std.proofs.lemmas.List.Sums.{prefix_len-le-length}

-- the first that passes, or the end
pub first_or_len : (p : ℕ → Bool) (xs : List ℕ) → unwrap_or (cond (ltb (position_or_len p xs) (length xs)) (Some (position_or_len p xs)) None) (length xs) ≡ position_or_len p xs
first_or_len p xs =
    let n = position_or_len p xs in
    let le : n ≤ length xs = prefix_len-le-length (λ x. not (p x)) xs in
    elim (cases_lt n (length xs)) [
      | inl lt ↦ let e : ltb n (length xs) ≡ true = lt-ltb n (length xs) lt in rw e refl
      | inr ge ↦ let e : ltb n (length xs) ≡ false = le-ltb n (length xs) ge in let same : length xs ≡ n = omega arith in rw e same
    ]

not_not : (b : Bool) → not (not b) ≡ b
not_not true = refl
not_not false = refl

pub run_is_first : (p : ℕ → Bool) (xs : List ℕ) → position_or_len (λ x. not (p x)) xs ≡ prefix_len p xs
run_is_first p [] = refl
run_is_first p (x ∷ xs) = rw (not_not (p x), run_is_first p xs) refl

-- the run before the first that fails, or all
pub run_or_len : (p : ℕ → Bool) (xs : List ℕ) → unwrap_or (cond (ltb (position_or_len (λ x. not (p x)) xs) (length xs)) (Some (position_or_len (λ x. not (p x)) xs)) None) (length xs) ≡ prefix_len p xs
run_or_len p xs = first_or_len (λ x. not (p x)) xs ∙ run_is_first p xs
