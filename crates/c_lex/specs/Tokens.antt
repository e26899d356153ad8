-- The tokens of a source text, or its first fault (ISO 9899:2011, 6.4).
use Rattle.std.specs.Prelude.{ℕ, zero, suc, ◌+◌, ◌-◌, nat_lt, List, [], ◌∷◌, ◌++◌, length, Result, Ok, Err, if◌then◌else◌}
use Rattle.base.specs.Limits.{most_source_bytes, most_tokens}
use Rattle.c_lex.specs.Results.{◌>>=◌}
use Rattle.c_lex.specs.Trivia.{include_len}
use Rattle.c_lex.specs.Lexemes.{lexeme_at}
use Rattle.c_lex.specs.declared.fault.LexFault.{LexFault}
use Rattle.c_lex.specs.declared.fault.LexFault.TheVariants.{BadNumber, ManyTokens, LongSource}
use Rattle.c_lex.specs.declared.lexeme.Lexeme.{Lexeme}
use Rattle.c_lex.specs.declared.lexeme.Lexeme.TheVariants as lexeme
use Rattle.c_lex.specs.declared.token.Token.{Token}

-- After 200,000 tokens one more is a fault, which comes before that of a bad number.
abbrev pub counted : ℕ → ℕ → Result Lexeme LexFault → Result Lexeme LexFault
counted count at (Ok (lexeme.Token k n)) = if nat_lt count most_tokens then Ok (lexeme.Token k n) else Err (ManyTokens at)
counted count at (Err (BadNumber p)) = if nat_lt count most_tokens then Err (BadNumber p) else Err (ManyTokens at)
counted count at scanned = scanned

-- these tokens, and then the others
abbrev pub tokens_then : List Token → Result (List Token) LexFault → Result (List Token) LexFault
tokens_then tokens others = others >>= λ more. Ok (tokens ++ more)

-- the tokens from a lexeme on, where `rest` gives those after it from the count and its length
abbrev pub lexeme_then : ℕ → ℕ → (ℕ → ℕ → Result (List Token) LexFault) → Lexeme → Result (List Token) LexFault
lexeme_then count at rest (lexeme.Trivia n) = rest count n
lexeme_then count at rest (lexeme.Token k n) = tokens_then (record { kind = k; at = at; end = at + n } ∷ []) (rest (count + 1) n)

-- The tokens of what is left of a source at the offset `at`, after `count` tokens. Its first `skip` bytes belong to
-- the lexeme before.
abbrev pub tokens_from : ℕ → ℕ → ℕ → List ℕ → Result (List Token) LexFault
tokens_from count at skip [] = Ok []
tokens_from count at (suc skip) (b ∷ bs) = tokens_from count (at + 1) skip bs
tokens_from count at zero (b ∷ bs) =
    counted count at (lexeme_at at (b ∷ bs)) >>= lexeme_then count at (λ c n. tokens_from c (at + 1) (n - 1) bs)

-- The tokens of a source: its first line may be an include line, as that after each line end.
unfoldable pub lexed : List ℕ → Result (List Token) LexFault
lexed source =
    if nat_lt most_source_bytes (length source) then Err (LongSource most_source_bytes)
    else tokens_from 0 0 (include_len source) source
