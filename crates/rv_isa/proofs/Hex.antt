-- The digits of a number in hexadecimal.
use Rattle.std.proofs.Common.{◌≡◌, ℕ, zero, suc, ◌-◌, ◌/◌, ◌%◌, ◌<◌, ◌≤◌, Bool, true, false, List, [], ◌∷◌, ◌++◌, refl, ap, ◌∙◌, arith}
use Rattle.std.specs.Prelude.{nat_lt, if◌then◌else◌}
use Rattle.std.proofs.lemmas.Bool.Decides.{nat_tests}
use Rattle.rv_isa.specs.Texts.{hex, hex_digit}

chosen-first : (b : Bool) (xs ys : List ℕ) → b ≡ true → (if b then xs else ys) ≡ xs
chosen-first true xs ys e = refl
chosen-first false xs ys e = absurd cc

chosen-last : (b : Bool) (xs ys : List ℕ) → b ≡ false → (if b then xs else ys) ≡ ys
chosen-last false xs ys e = refl
chosen-last true xs ys e = absurd cc

pub hex_one : (digits n : ℕ) → 0 < digits → n < 16 → hex digits n ≡ hex_digit n ∷ []
hex_one zero n some low = absurd (omega arith)
hex_one (suc digits) n some low =
    let test : nat_lt n 16 ≡ true = grind (arith, nat_tests) in
    chosen-first (nat_lt n 16) (hex_digit n ∷ []) (hex digits (n / 16) ++ hex_digit (n % 16) ∷ []) test

pub hex_more : (digits n : ℕ) → 0 < digits → 16 ≤ n → hex digits n ≡ hex (digits - 1) (n / 16) ++ hex_digit (n % 16) ∷ []
hex_more zero n some high = absurd (omega arith)
hex_more (suc digits) n some high =
    let test : nat_lt n 16 ≡ false = grind (arith, nat_tests) in
    let same : digits ≡ suc digits - 1 = omega arith in
    chosen-last (nat_lt n 16) (hex_digit n ∷ []) (hex digits (n / 16) ++ hex_digit (n % 16) ∷ []) test ∙ ap (λ d. hex d (n / 16) ++ hex_digit (n % 16) ∷ []) same
