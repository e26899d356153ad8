-- Integer constants (ISO 9899:2011, 6.4.4.1 and 6.4.8).
use Rattle.std.specs.Prelude.{ℕ, Bool, true, false, ◌&&◌, ◌||◌, ◌==◌, not, nat_lt, nat_eq, List, [], ◌∷◌, take, drop, Option, Some, None, Result, Ok, Err, codes, if◌then◌else◌}
use Rattle.std.specs.List.{starts_with, prefix_len}
use Rattle.std.specs.Option.{ok_or}
use Rattle.c_lex.specs.Classes.{is_number_byte}
use Rattle.c_lex.specs.Digits.{is_digit_in, digits_value}
use Rattle.c_lex.specs.Results.{◌>>=◌}
use Rattle.c_lex.specs.declared.fault.LexFault.{LexFault}
use Rattle.c_lex.specs.declared.fault.LexFault.TheVariants.{TooWide, BadNumber}
use Rattle.c_lex.specs.declared.lexeme.Lexeme.{Lexeme}
use Rattle.c_lex.specs.declared.lexeme.Lexeme.TheVariants as lexeme
use Rattle.c_lex.specs.declared.token.TokenKind.{TokenKind}
use Rattle.c_lex.specs.declared.token.TokenKind.TheVariants as kind

-- after the digits stands nothing, or one `u` or `U`: whether it stands there
abbrev pub suffix : List ℕ → Option Bool
suffix [] = Some false
suffix (b ∷ []) = if b == 117 || b == 85 then Some true else None
suffix _ = None

-- the token of a constant of this value: decimal ones have type `int` alone where they have no suffix
abbrev pub typed : ℕ → ℕ → ℕ → Bool → Result TokenKind LexFault
typed base at value unsigned =
    if nat_lt 4294967295 value || (base == 10 && not unsigned && nat_lt 2147483647 value)
    then Err (TooWide at)
    else Ok (kind.Number value (unsigned || nat_lt 2147483647 value))

-- a constant of digits of this base, then perhaps a suffix
unfoldable pub digits_at : ℕ → ℕ → List ℕ → Result TokenKind LexFault
digits_at base at text =
    let n = prefix_len (is_digit_in base) text in
    if n == 0 then Err (BadNumber at)
    else (ok_or (suffix (drop n text)) (BadNumber at) >>= λ unsigned.
    typed base at (digits_value base (take n text)) unsigned)

-- hexadecimal after `0x` or `0X`, else octal after `0`, else decimal
unfoldable pub constant_at : ℕ → List ℕ → Result TokenKind LexFault
constant_at at run =
    if starts_with nat_eq run (codes "0x") || starts_with nat_eq run (codes "0X") then digits_at 16 at (drop 2 run)
    else (if starts_with nat_eq run (codes "0") then digits_at 8 at run else digits_at 10 at run)

-- the longest run of bytes that a number goes on with, which is to be a constant
unfoldable pub number_at : ℕ → List ℕ → Result Lexeme LexFault
number_at at text =
    let n = prefix_len is_number_byte text in
    constant_at at (take n text) >>= λ k. Ok (lexeme.Token k n)
