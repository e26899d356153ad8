-- Tokens by a grammar, and a source as the tokens that stand in it: each of them the longest run from its start that
-- is one, with only blanks, comments and include lines between them (ISO 9899:2011, 6.4).
use Rattle.std.specs.Prelude.{◌≡◌, ◌≢◌, ◌⊎◌, ◌↔◌, ℕ, ◌+◌, ◌-◌, ◌<◌, ◌≤◌, Bool, true, false, ◌||◌, not, List, [], ◌∷◌, ◌++◌, length, drop, nat_eq, slice_index, slice_range, Some, Ok, codes}
use Rattle.std.specs.List.{starts_with, list_all}
use Rattle.base.specs.Limits.{most_name_bytes, most_source_bytes, most_tokens}
use Rattle.c_lex.specs.Classes.{is_letter, is_digit, is_name_byte, is_number_byte, is_inner_blank, is_line_end}
use Rattle.c_lex.specs.Keywords.{keyword_spelling}
use Rattle.c_lex.specs.Punctuators.{punct_spelling}
use Rattle.c_lex.specs.Numbers.{constant_at}
use Rattle.c_lex.specs.Quoted.{characters}
use Rattle.c_lex.specs.Trivia.{ends_line}
use Rattle.c_lex.specs.Tokens.{lexed}
use Rattle.c_lex.specs.declared.keyword.Keyword.{Keyword}
use Rattle.c_lex.specs.declared.punct.Punct.{Punct}
use Rattle.c_lex.specs.declared.token.Token.{Token}
use Rattle.c_lex.specs.declared.token.TokenKind.{TokenKind}
use Rattle.c_lex.specs.declared.token.TokenKind.TheVariants as kind

-- ---- what is a token (6.4: where a keyword is an identifier as others, and a constant a number as others)

-- a name or a keyword: a letter or `_`, then letters, digits and `_` (6.4.1, 6.4.2)
abbrev pub IsIdentifier : List ℕ → Type 0
IsIdentifier [] = ⊥
IsIdentifier (b ∷ bs) = (is_letter b ≡ true) × (list_all is_name_byte bs ≡ true)

-- a number: a digit, then letters, digits, `_` and `.` (6.4.8)
abbrev pub IsNumber : List ℕ → Type 0
IsNumber [] = ⊥
IsNumber (b ∷ bs) = (is_digit b ≡ true) × (list_all is_number_byte bs ≡ true)

-- What stands after an opening quote: the closing one; or a byte that is no quote, no backslash and no line end, and
-- so on; or a backslash with a byte that is no line end, and so on (6.4.4.4, 6.4.5).
abbrev pub IsClosed : ℕ → List ℕ → Type 0
IsClosed quote [] = ⊥
IsClosed quote (b ∷ []) = b ≡ quote
IsClosed quote (b ∷ c ∷ bs) =
    ((b ≢ 10) × (b ≢ quote) × (b ≢ 92) × IsClosed quote (c ∷ bs)) ⊎ ((b ≡ 92) × (c ≢ 10) × IsClosed quote bs)

-- a character constant or a string literal
abbrev pub IsQuoted : ℕ → List ℕ → Type 0
IsQuoted quote [] = ⊥
IsQuoted quote (b ∷ bs) = (b ≡ quote) × IsClosed quote bs

-- a punctuator (6.4.6)
abbrev pub IsPunctuator : List ℕ → Type 0
IsPunctuator bytes = (p : Punct) × (punct_spelling p ≡ bytes)

abbrev pub IsToken : List ℕ → Type 0
IsToken bytes = IsIdentifier bytes ⊎ IsNumber bytes ⊎ IsQuoted 39 bytes ⊎ IsQuoted 34 bytes ⊎ IsPunctuator bytes

-- ---- what a token means

-- the bytes of a token of this kind
abbrev pub Spells : List ℕ → TokenKind → Type 0
Spells bytes (kind.Name name) = IsIdentifier bytes × (name ≡ bytes) × (length bytes ≤ most_name_bytes) × ((k : Keyword) → keyword_spelling k ≡ bytes → ⊥)
Spells bytes (kind.Keyword k) = keyword_spelling k ≡ bytes
Spells bytes (kind.Number value unsigned) = IsNumber bytes × (constant_at 0 bytes ≡ Ok (kind.Number value unsigned))
Spells bytes (kind.Char c) = (inner : List ℕ) × (bytes ≡ 39 ∷ (inner ++ 39 ∷ [])) × (characters 0 inner ≡ Some (c ∷ []))
Spells bytes (kind.Text cs) = (inner : List ℕ) × (bytes ≡ 34 ∷ (inner ++ 34 ∷ [])) × (characters 0 inner ≡ Some cs)
Spells bytes (kind.Punct p) = punct_spelling p ≡ bytes

-- a comment begins with the first byte
abbrev pub begins_comment : List ℕ → Bool
begins_comment text = starts_with nat_eq text (codes "/*") || starts_with nat_eq text (codes "//")

-- A token stands in the source: no comment begins there, and no longer run from its start is a token.
pub record Stands (source : List ℕ) (t : Token) : Type 0 where
  pub some : t.at < t.end
  pub within : t.end ≤ length source
  pub no_comment : begins_comment (drop t.at source) ≡ false
  pub token : IsToken (slice_range source t.at t.end)
  pub spells : Spells (slice_range source t.at t.end) t.kind
  pub longest : (end : ℕ) → t.end < end → end ≤ length source → IsToken (slice_range source t.at end) → ⊥

-- ---- what stands between tokens

-- `/*`, and on to the first `*/` after it (6.4.9)
pub record IsBlockComment (bytes : List ℕ) : Type 0 where
  pub inner : List ℕ
  pub spelled : bytes ≡ codes "/*" ++ (inner ++ codes "*/")
  pub first : (n : ℕ) → n < length inner → starts_with nat_eq (drop n (inner ++ codes "*/")) (codes "*/") ≡ false

-- `//`, and on to the end of the line
pub record IsLineComment (bytes following : List ℕ) : Type 0 where
  pub inner : List ℕ
  pub spelled : bytes ≡ codes "//" ++ inner
  pub on_line : list_all (λ b. not (is_line_end b)) inner ≡ true
  pub ends : ends_line following ≡ true

abbrev pub AreBlanks : List ℕ → Type 0
AreBlanks bytes = list_all is_inner_blank bytes ≡ true

-- a line that holds only `#include <stdio.h>` or `#include <stdlib.h>`, blanks apart
pub record IsIncludeLine (bytes following : List ℕ) : Type 0 where
  pub before : List ℕ
  pub hash_blanks : List ℕ
  pub include_blanks : List ℕ
  pub header : List ℕ
  pub after : List ℕ
  pub spelled : bytes ≡ before ++ (codes "#" ++ (hash_blanks ++ (codes "include" ++ (include_blanks ++ (header ++ after)))))
  pub header_is : (header ≡ codes "<stdio.h>") ⊎ (header ≡ codes "<stdlib.h>")
  pub blanks : AreBlanks before × AreBlanks hash_blanks × AreBlanks include_blanks × AreBlanks after
  pub ends : ends_line following ≡ true

-- a line begins here
abbrev pub IsLineStart : List ℕ → ℕ → Type 0
IsLineStart source at = (at ≡ 0) ⊎ ((0 < at) × (is_line_end (slice_index source (at - 1)) ≡ true))

-- an include line that begins at the start of a line covers the offset
pub record IsInIncludeLine (source : List ℕ) (at : ℕ) : Type 0 where
  pub start : ℕ
  pub end : ℕ
  pub line : IsLineStart source start
  pub from : start ≤ at
  pub to : at < end
  pub within : end ≤ length source
  pub include : IsIncludeLine (slice_range source start end) (drop end source)

-- one blank, one comment or one include line
abbrev pub IsTrivia : List ℕ → ℕ → ℕ → Type 0
IsTrivia source at end =
    ((end ≡ at + 1) × (is_line_end (slice_index source at) || is_inner_blank (slice_index source at) ≡ true))
    ⊎ IsBlockComment (slice_range source at end)
    ⊎ IsLineComment (slice_range source at end) (drop end source)
    ⊎ (IsLineStart source at × IsIncludeLine (slice_range source at end) (drop end source))

-- From one offset up to another the source is these tokens, with trivia between them.
pub data Reads (source : List ℕ) (to : ℕ) : ℕ → List Token → Type 0 where
  done : (at : ℕ) → at ≡ to → Reads source to at []
  trivia : (at end : ℕ) (ts : List Token) → at < end → end ≤ length source → IsTrivia source at end → Reads source to end ts → Reads source to at ts
  token : (t : Token) (ts : List Token) → Stands source t → Reads source to t.end ts → Reads source to t.at (t ∷ ts)

-- ---- the law

-- The tokens of a source are those that stand so in it, where it and they are not too many.
abbrev pub TokensAreLongest : Type 0
TokensAreLongest =
    (source : List ℕ) (ts : List Token) →
    (lexed source ≡ Ok ts) ↔ ((length source ≤ most_source_bytes) × (length ts ≤ most_tokens) × Reads source (length source) 0 ts)
