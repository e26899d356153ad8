-- Character constants and string literals (ISO 9899:2011, 6.4.4.4 and 6.4.5).
use Rattle.std.specs.Prelude.{ℕ, zero, suc, ◌+◌, ◌-◌, Bool, false, ◌==◌, nat_lt, List, [], ◌∷◌, take, Option, Some, None, Result, Ok, if◌then◌else◌}
use Rattle.std.specs.List.{prefix_len}
use Rattle.std.specs.Option.{ok_or, option_map, option_and_then}
use Rattle.c_lex.specs.Digits.{is_digit_in, digits_value}
use Rattle.c_lex.specs.Results.{◌>>=◌}
use Rattle.c_lex.specs.declared.fault.LexFault.{LexFault}
use Rattle.c_lex.specs.declared.fault.LexFault.TheVariants.{OpenText, BadText}
use Rattle.c_lex.specs.declared.lexeme.Lexeme.{Lexeme}
use Rattle.c_lex.specs.declared.lexeme.Lexeme.TheVariants as lexeme
use Rattle.c_lex.specs.declared.token.TokenKind.TheVariants as kind

-- Where the closing quote stands in a text that begins at the offset `at`: the first that no backslash takes with
-- it. There is none where the line or the source ends before.
abbrev pub closing_from : ℕ → Bool → ℕ → List ℕ → Option ℕ
closing_from quote taken at [] = None
closing_from quote taken at (b ∷ bs) =
    if b == 10 then None
    else (if taken then closing_from quote false (at + 1) bs
    else (if b == quote then Some at else closing_from quote (b == 92) (at + 1) bs))

-- what one byte after a backslash stands for
unfoldable pub simple_escape : ℕ → Option ℕ
simple_escape b =
    if b == 110 then Some 10
    else (if b == 116 then Some 9
    else (if b == 114 then Some 13
    else (if b == 97 then Some 7
    else (if b == 98 then Some 8
    else (if b == 102 then Some 12
    else (if b == 118 then Some 11
    else (if b == 92 then Some 92
    else (if b == 39 then Some 39
    else (if b == 34 then Some 34
    else (if b == 63 then Some 63
    else None))))))))))

-- digits that stand for a byte, with the number of bytes of the whole escape
abbrev pub digits_escape : ℕ → ℕ → List ℕ → Option (ℕ × ℕ)
digits_escape base bytes digits = if nat_lt 255 (digits_value base digits) then None else Some (digits_value base digits, bytes)

-- the value and the length of an escape after its backslash: one to three octal digits, `x` and the longest run
-- of hexadecimal ones, or one byte
unfoldable pub escape_at : List ℕ → Option (ℕ × ℕ)
escape_at [] = None
escape_at (b ∷ bs) =
    if is_digit_in 8 b then (let n = prefix_len (is_digit_in 8) (take 3 (b ∷ bs)) in digits_escape 8 n (take n (b ∷ bs)))
    else (if b == 120 then (let n = prefix_len (is_digit_in 16) bs in (if n == 0 then None else digits_escape 16 (n + 1) (take n bs)))
    else option_map (λ v. (v, 1)) (simple_escape b))

-- the value and the length of the character at the front
unfoldable pub character_at : List ℕ → Option (ℕ × ℕ)
character_at [] = None
character_at (b ∷ bs) = if b == 92 then option_map (λ e. (e.0, e.1 + 1)) (escape_at bs) else Some (b, 1)

abbrev pub with_first : ℕ → Option (List ℕ) → Option (List ℕ)
with_first c cs = option_map (λ rest. c ∷ rest) cs

-- The characters that the characters between quotes stands for, of which the first `skip` bytes belong to a character that
-- is counted already. There are none where an escape is not known.
abbrev pub characters : ℕ → List ℕ → Option (List ℕ)
characters skip [] = Some []
characters (suc skip) (b ∷ bs) = characters skip bs
characters zero (b ∷ bs) = option_and_then (λ c. with_first c.0 (characters (c.1 - 1) bs)) (character_at (b ∷ bs))

-- the only character
abbrev pub only : List ℕ → Option ℕ
only (c ∷ []) = Some c
only _ = None

-- a character constant after its opening quote
unfoldable pub char_at : ℕ → List ℕ → Result Lexeme LexFault
char_at at text =
    ok_or (closing_from 39 false 0 text) (OpenText at) >>= λ n.
    ok_or (option_and_then only (characters 0 (take n text))) (BadText at) >>= λ c.
    Ok (lexeme.Token (kind.Char c) (n + 2))

-- a string literal after its opening quote
unfoldable pub string_at : ℕ → List ℕ → Result Lexeme LexFault
string_at at text =
    ok_or (closing_from 34 false 0 text) (OpenText at) >>= λ n.
    ok_or (characters 0 (take n text)) (BadText at) >>= λ bytes.
    Ok (lexeme.Token (kind.Text bytes) (n + 2))
