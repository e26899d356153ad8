-- Digits and their values (ISO 9899:2011, 6.4.4.1).
use Rattle.std.specs.Prelude.{ℕ, ◌+◌, ◌-◌, ◌*◌, Bool, ◌&&◌, List, if◌then◌else◌, nat_lt, fold}
use Rattle.c_lex.specs.Classes.{is_digit, is_hex_digit, is_between}

-- what a digit stands for
abbrev pub digit_value : ℕ → ℕ
digit_value b = if is_digit b then b - 48 else (if is_between 97 102 b then b - 87 else b - 55)

-- a digit of the base
abbrev pub is_digit_in : ℕ → ℕ → Bool
is_digit_in base b = is_hex_digit b && nat_lt (digit_value b) base

-- the value of digits, the most significant first
abbrev pub digits_value : ℕ → List ℕ → ℕ
digits_value base digits = fold (λ v d. v * base + digit_value d) 0 digits
