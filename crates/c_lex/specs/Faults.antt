-- What is wrong where a fault is reported.
use Rattle.std.specs.Prelude.{◌≡◌, ◌≢◌, ◌⊎◌, ◌↔◌, ℕ, ◌+◌, ◌<◌, ◌≤◌, true, false, List, [], ◌∷◌, ◌++◌, length, take, drop, nat_eq, slice_index, Some, None, Err, codes}
use Rattle.std.specs.List.{starts_with}
use Rattle.base.specs.Limits.{most_name_bytes, most_source_bytes, most_tokens}
use Rattle.c_lex.specs.Classes.{is_inner_blank, is_line_end}
use Rattle.c_lex.specs.Numbers.{constant_at}
use Rattle.c_lex.specs.Quoted.{characters}
use Rattle.c_lex.specs.Tokens.{lexed}
use Rattle.c_lex.specs.Grammar.{IsIdentifier, IsNumber, IsQuoted, IsToken, Spells, Reads, IsInIncludeLine, begins_comment}
use Rattle.c_lex.specs.declared.fault.LexFault.{LexFault}
use Rattle.c_lex.specs.declared.fault.LexFault.TheVariants as fault
use Rattle.c_lex.specs.declared.token.Token.{Token}
use Rattle.c_lex.specs.declared.token.TokenKind.{TokenKind}

-- the first n bytes of a text are a token of this kind, where no comment begins, and no more of them are a token
pub record IsLongest (text : List ℕ) (n : ℕ) (k : TokenKind) : Type 0 where
  pub no_comment : begins_comment text ≡ false
  pub token : IsToken (take n text)
  pub spells : Spells (take n text) k
  pub longest : (m : ℕ) → n < m → m ≤ length text → IsToken (take m text) → ⊥

-- the first n bytes are a number, and no more of them are a token
pub record IsLongestNumber (text : List ℕ) (n : ℕ) : Type 0 where
  pub within : n ≤ length text
  pub number : IsNumber (take n text)
  pub longest : (m : ℕ) → n < m → m ≤ length text → IsToken (take m text) → ⊥

-- the first n bytes are a name or a keyword, and no more of them are a token
pub record IsLongestIdentifier (text : List ℕ) (n : ℕ) : Type 0 where
  pub within : n ≤ length text
  pub identifier : IsIdentifier (take n text)
  pub longest : (m : ℕ) → n < m → m ≤ length text → IsToken (take m text) → ⊥

-- there is a first byte, and no token, blank, quoted sequence or directive begins with it
pub record BeginsNothing (text : List ℕ) : Type 0 where
  pub some : 0 < length text
  pub no_token : (n : ℕ) → n ≤ length text → IsToken (take n text) → ⊥
  pub no_line_end : is_line_end (slice_index text 0) ≡ false
  pub no_blank : is_inner_blank (slice_index text 0) ≡ false
  pub no_quote : slice_index text 0 ≢ 39
  pub no_double_quote : slice_index text 0 ≢ 34
  pub no_hash : slice_index text 0 ≢ 35

-- a quote without the one that closes it on its line
abbrev pub IsOpen : ℕ → List ℕ → Type 0
IsOpen quote text = (slice_index text 0 ≡ quote) × ((n : ℕ) → n ≤ length text → IsQuoted quote (take n text) → ⊥)

-- the first bytes are quotes with these bytes between them
abbrev pub IsEnclosed : ℕ → List ℕ → List ℕ → Type 0
IsEnclosed quote text inner =
    let n = length inner + 2 in
    (n ≤ length text) × IsQuoted quote (take n text) × (take n text ≡ quote ∷ (inner ++ quote ∷ []))

-- a number that is no constant, for this reason
abbrev pub IsNoConstant : List ℕ → ℕ → LexFault → Type 0
IsNoConstant text at f = (n : ℕ) × IsLongestNumber text n × (constant_at at (take n text) ≡ Err f)

-- What is wrong at the offset `at`, from where on the source is `text`, and before which `count` tokens stand.
abbrev pub IsFault : List ℕ → ℕ → ℕ → LexFault → Type 0
IsFault text count at (fault.BadByte offset) = (offset ≡ at) × BeginsNothing text
IsFault text count at (fault.OpenComment offset) =
    (offset ≡ at) × (starts_with nat_eq text (codes "/*") ≡ true) × ((n : ℕ) → starts_with nat_eq (drop n (drop 2 text)) (codes "*/") ≡ false)
IsFault text count at (fault.OpenText offset) = (offset ≡ at) × (IsOpen 39 text ⊎ IsOpen 34 text)
IsFault text count at (fault.BadText offset) =
    (offset ≡ at) × ((inner : List ℕ) × (
    (IsEnclosed 39 text inner × ((c : ℕ) → characters 0 inner ≡ Some (c ∷ []) → ⊥)) ⊎ (IsEnclosed 34 text inner × (characters 0 inner ≡ None))))
IsFault text count at (fault.TooWide offset) = (offset ≡ at) × IsNoConstant text at (fault.TooWide at)
IsFault text count at (fault.LongName offset) = (offset ≡ at) × ((n : ℕ) × (most_name_bytes < n) × IsLongestIdentifier text n)
IsFault text count at (fault.Directive offset) = (offset ≡ at) × (slice_index text 0 ≡ 35)
IsFault text count at (fault.ManyTokens offset) =
    (offset ≡ at) × (most_tokens ≤ count) × (
    ((n : ℕ) × (k : TokenKind) × (n ≤ length text) × IsLongest text n k) ⊎ IsNoConstant text at (fault.BadNumber at))
IsFault text count at (fault.BadNumber offset) = (offset ≡ at) × (count < most_tokens) × IsNoConstant text at (fault.BadNumber at)
IsFault text count at (fault.LongSource offset) = ⊥
IsFault text count at fault.NoMemory = ⊥

-- Up to an offset the source is tokens, at most as many as there may be, with trivia between them. No include line covers
-- the offset, and there the source is wrong.
pub record IsFaulty (source : List ℕ) (f : LexFault) : Type 0 where
  pub short : length source ≤ most_source_bytes
  pub tokens : List Token
  pub few : length tokens ≤ most_tokens
  pub offset : ℕ
  pub reads : Reads source offset 0 tokens
  pub outside : IsInIncludeLine source offset → ⊥
  pub fault : IsFault (drop offset source) (length tokens) offset f

-- ---- the law

-- A source has a fault exactly where it is too long, or is wrong so at an offset. So it is so at one offset at most.
abbrev pub FaultsAreFirst : Type 0
FaultsAreFirst =
    (source : List ℕ) (f : LexFault) →
    (lexed source ≡ Err f) ↔ (((most_source_bytes < length source) × (f ≡ fault.LongSource most_source_bytes)) ⊎ IsFaulty source f)
