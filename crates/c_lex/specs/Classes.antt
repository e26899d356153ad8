-- The classes of bytes (ISO 9899:2011, 5.2.1 and 6.4).
use Rattle.std.specs.Prelude.{ℕ, Bool, ◌&&◌, ◌||◌, ◌==◌, nat_le}

-- from low to high
abbrev pub is_between : ℕ → ℕ → ℕ → Bool
is_between low high b = nat_le low b && nat_le b high

-- `0` to `9`
abbrev pub is_digit : ℕ → Bool
is_digit b = is_between 48 57 b

-- `0` to `7`
abbrev pub is_octal_digit : ℕ → Bool
is_octal_digit b = is_between 48 55 b

-- a digit, `a` to `f`, `A` to `F`
abbrev pub is_hex_digit : ℕ → Bool
is_hex_digit b = is_digit b || is_between 97 102 b || is_between 65 70 b

-- a letter of ASCII or `_`: a nondigit (6.4.2.1)
abbrev pub is_letter : ℕ → Bool
is_letter b = is_between 97 122 b || is_between 65 90 b || b == 95

-- what a name goes on with
abbrev pub is_name_byte : ℕ → Bool
is_name_byte b = is_letter b || is_digit b

-- what a number goes on with (6.4.8, without signs after an exponent)
abbrev pub is_number_byte : ℕ → Bool
is_number_byte b = is_name_byte b || b == 46

-- the end of a line
abbrev pub is_line_end : ℕ → Bool
is_line_end b = b == 10

-- a blank that ends no line: a space, a tab, a vertical tab, a form feed, a carriage return
abbrev pub is_inner_blank : ℕ → Bool
is_inner_blank b = b == 32 || b == 9 || is_between 11 13 b
