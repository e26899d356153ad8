-- The digits of a number, the last one apart.
use Rattle.std.proofs.Common.{◌≡◌, ℕ, ◌<◌, ◌≤◌, ◌/◌, ◌%◌, ◌+◌, ◌^◌, [], ◌∷◌, ◌++◌, length, map, ap, ◌∙◌, arith}
use Rattle.std.specs.Int.Digits.{digits_of}
use Rattle.std.proofs.lemmas.Int.Digits.{digits_of_step, length-digits_of_step, length-digits_of-le}
use Rattle.std.proofs.lemmas.List.{map-append}

pub digits_text_step : (n : ℕ) → 0 < n → map (λ d. 48 + d) (digits_of 10 n) ≡ map (λ d. 48 + d) (digits_of 10 (n / 10)) ++ (48 + n % 10) ∷ []
digits_text_step n positive =
    ap (map (λ d. 48 + d)) (digits_of_step 10 n (omega arith) positive)
    ∙ map-append (λ d. 48 + d) (digits_of 10 (n / 10)) (n % 10 ∷ [])

pub digits_length_step : (n : ℕ) → 0 < n → length (digits_of 10 n) ≡ length (digits_of 10 (n / 10)) + 1
digits_length_step n positive = length-digits_of_step 10 n (omega arith) positive

pub digits_room : (n : ℕ) → n < 2 ^ 64 → length (digits_of 10 n) ≤ 20
digits_room n small = length-digits_of-le 10 20 n (omega arith) (omega arith)
