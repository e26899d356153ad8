-- Numbers as they are written in reports.
use Rattle.std.specs.Prelude.{ℕ, zero, suc, ◌+◌, ◌/◌, ◌%◌, ◌==◌, List, [], ◌∷◌, ◌++◌, map, nat_lt, if◌then◌else◌}
use Rattle.std.specs.Int.Digits.{digits_of}

-- decimal digits without leading zeros, and one for 0
abbrev pub decimal_text : ℕ → List ℕ
decimal_text n = if n == 0 then 48 ∷ [] else map (λ d. 48 + d) (digits_of 10 n)

-- a hexadecimal digit, in lower case
abbrev pub hex_digit : ℕ → ℕ
hex_digit d = if nat_lt d 10 then 48 + d else 87 + d

-- this many hexadecimal digits, the lowest of the number
abbrev pub hex_text : (digits n : ℕ) → List ℕ
hex_text zero n = []
hex_text (suc digits) n = hex_text digits (n / 16) ++ hex_digit (n % 16) ∷ []
