-- How tokens can be written again.
use Rattle.std.specs.Prelude.{◌≡◌, ℕ, zero, suc, ◌+◌, ◌/◌, ◌%◌, ◌≤◌, Bool, ◌||◌, ◌==◌, List, [], ◌∷◌, ◌++◌, length, Ok, map, if◌then◌else◌}
use Rattle.base.specs.Limits.{most_source_bytes}
use Rattle.c_lex.specs.Keywords.{keyword_spelling}
use Rattle.c_lex.specs.Punctuators.{punct_spelling}
use Rattle.c_lex.specs.Tokens.{lexed}
use Rattle.c_lex.specs.declared.token.Token.{Token}
use Rattle.c_lex.specs.declared.token.TokenKind.{TokenKind}
use Rattle.c_lex.specs.declared.token.TokenKind.TheVariants as kind

-- the last n octal digits of a number
abbrev pub octal : ℕ → ℕ → List ℕ
octal zero value = []
octal (suc n) value = octal n (value / 8) ++ (value % 8 + 48) ∷ []

-- a quote or a backslash
abbrev pub is_escaped : ℕ → Bool
is_escaped c = c == 39 || c == 34 || c == 92

-- characters between quotes
abbrev pub escapes : List ℕ → List ℕ
escapes [] = []
escapes (c ∷ cs) =
    if c == 10 then 92 ∷ 110 ∷ escapes cs else (if is_escaped c then 92 ∷ c ∷ escapes cs else c ∷ escapes cs)

abbrev pub quoted : ℕ → List ℕ → List ℕ
quoted quote cs = quote ∷ (escapes cs ++ quote ∷ [])

-- A token as text: a number in octal digits, and a character by itself or by an escape.
abbrev pub written : TokenKind → List ℕ
written (kind.Name name) = name
written (kind.Keyword k) = keyword_spelling k
written (kind.Number value unsigned) = 48 ∷ 48 ∷ (octal 11 value ++ (if unsigned then 117 ∷ [] else []))
written (kind.Char c) = quoted 39 (c ∷ [])
written (kind.Text cs) = quoted 34 cs
written (kind.Punct p) = punct_spelling p

-- tokens as text, with a space after each
abbrev pub written_all : List TokenKind → List ℕ
written_all [] = []
written_all (k ∷ ks) = written k ++ 32 ∷ written_all ks

abbrev pub kinds : List Token → List TokenKind
kinds ts = map (λ t. t.kind) ts

-- The tokens of a source say all of it but what stands between them: written again they give the same tokens.
abbrev pub TokensAreReadAgain : Type 0
TokensAreReadAgain =
    (source : List ℕ) (ts : List Token) → lexed source ≡ Ok ts → length (written_all (kinds ts)) ≤ most_source_bytes →
    (us : List Token) × (lexed (written_all (kinds ts)) ≡ Ok us) × (kinds us ≡ kinds ts)
