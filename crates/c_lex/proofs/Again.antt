-- The tokens of a source, written again, are read again.
use Rattle.std.proofs.Common.{◌≡◌, ℕ, ◌+◌, ◌-◌, ◌<◌, ◌≤◌, Bool, true, false, cond, not, eqb, ltb, ◌&&◌, ◌||◌, List, [], ◌∷◌, ◌++◌, length, take, drop, Some, None, Result, Ok, Err, codes, refl, sym, ap, ◌∙◌, subst, arith, inl, inr}
use Rattle.std.specs.Prelude.{nat_eq}
use Rattle.std.specs.Option.{ok_or, option_and_then, option_map_or}
use Rattle.std.specs.List.{starts_with, prefix_len}
use Rattle.std.proofs.lemmas.Bool.{ltb-false, lt-ltb, le-ltb, or_parts}
use Rattle.std.proofs.lemmas.Bool.Decides.{nat_tests}
use Rattle.std.proofs.lemmas.List.{drop_at, length-append, length-map}
use Rattle.base.specs.Limits.{most_source_bytes, most_tokens}
use Rattle.c_lex.specs.Results.{◌>>=◌}
use Rattle.c_lex.specs.Classes.{is_line_end, is_inner_blank}
use Rattle.c_lex.specs.Digits.{is_digit_in, digits_value}
use Rattle.c_lex.specs.Trivia.{include_len, past_include, past, past_blanks, past_header, ends_line}
use Rattle.c_lex.specs.Keywords.{keyword_of}
use Rattle.c_lex.specs.Numbers.{constant_at, digits_at, typed, suffix}
use Rattle.c_lex.specs.Lexemes.{lexeme_at, lexeme_of, start_of}
use Rattle.c_lex.specs.Tokens.{tokens_from, counted, tokens_then, lexed}
use Rattle.c_lex.specs.Grammar.{Spells, Reads, done, trivia, token}
use Rattle.c_lex.specs.Written.{written, written_all, kinds, TokensAreReadAgain}
use Rattle.c_lex.specs.declared.fault.LexFault.{LexFault}
use Rattle.c_lex.specs.declared.fault.LexFault.TheVariants as fault
use Rattle.c_lex.specs.declared.lexeme.Lexeme.TheVariants as lexeme
use Rattle.c_lex.specs.declared.lexeme.Start.TheVariants as start
use Rattle.c_lex.specs.declared.token.Token.{Token}
use Rattle.c_lex.specs.declared.token.TokenKind.{TokenKind}
use Rattle.c_lex.specs.declared.token.TokenKind.TheVariants as kind
use Rattle.c_lex.proofs.Lengths.{bind_ok, chosen, lexeme_fits}
use Rattle.c_lex.proofs.Driver.{step}
use Rattle.c_lex.proofs.Tables.{no_keyword}
use Rattle.c_lex.proofs.Whole.{lexed_reads}
use Rattle.c_lex.proofs.Reading.{IsProper, kind_read}

-- ---- what the tokens are

abbrev made_number : ℕ → Bool → Result TokenKind LexFault
made_number v u = Ok (kind.Number v u)

number_parts : (v w : ℕ) (u t : Bool) → made_number v u ≡ made_number w t → (v ≡ w) × (u ≡ t)
number_parts v w u t e = (cc, cc)

unsigned_by : (unsigned high u : Bool) (value : ℕ) → (unsigned || high) ≡ u → high ≡ ltb 2147483647 value → u ≡ false → value ≤ 2147483647
unsigned_by unsigned high u value is test e =
    let parts = or_parts unsigned high (is ∙ e) in
    ltb-false 2147483647 value (sym test ∙ parts.1)

typed_fits : (base at value : ℕ) (unsigned : Bool) (v : ℕ) (u : Bool) → typed base at value unsigned ≡ Ok (kind.Number v u) → IsProper (kind.Number v u)
typed_fits base at value unsigned v u e =
    let wide = ltb 4294967295 value || (eqb base 10 && not unsigned && ltb 2147483647 value) in
    elim (chosen wide (Err (fault.TooWide at)) (Ok (kind.Number value (unsigned || ltb 2147483647 value))) (Ok (kind.Number v u)) e) [
      | inl (_, f) ↦ absurd cc
      | inr (fits, f) ↦
          let same = number_parts value v (unsigned || ltb 2147483647 value) u f in
          let below : value ≤ 4294967295 = ltb-false 4294967295 value (or_parts (ltb 4294967295 value) (eqb base 10 && not unsigned && ltb 2147483647 value) fits).0 in
          subst (λ (w : ℕ). IsProper (kind.Number w u)) same.0 (below, unsigned_by unsigned (ltb 2147483647 value) u value same.1 refl)
    ]

digits_fit : (base at : ℕ) (text : List ℕ) (v : ℕ) (u : Bool) → digits_at base at text ≡ Ok (kind.Number v u) → IsProper (kind.Number v u)
unfolding digits_at
digits_fit base at text v u e =
    let n = prefix_len (is_digit_in base) text in
    let value = digits_value base (take n text) in
    elim (chosen (eqb n 0) (Err (fault.BadNumber at)) (ok_or (suffix (drop n text)) (fault.BadNumber at) >>= λ w. typed base at value w) (Ok (kind.Number v u)) e) [
      | inl (_, f) ↦ absurd cc
      | inr (some, f) ↦
          let w = bind_ok (ok_or (suffix (drop n text)) (fault.BadNumber at)) (λ w. typed base at value w) (kind.Number v u) f in
          typed_fits base at value w.0 v u w.2
    ]

constant_fits : (at : ℕ) (run : List ℕ) (v : ℕ) (u : Bool) → constant_at at run ≡ Ok (kind.Number v u) → IsProper (kind.Number v u)
unfolding constant_at
constant_fits at run v u e =
    let hex = starts_with nat_eq run (codes "0x") || starts_with nat_eq run (codes "0X") in
    let octal = starts_with nat_eq run (codes "0") in
    elim (chosen hex (digits_at 16 at (drop 2 run)) (cond octal (digits_at 8 at run) (digits_at 10 at run)) (Ok (kind.Number v u)) e) [
      | inl (_, f) ↦ digits_fit 16 at (drop 2 run) v u f
      | inr (_, f) ↦ elim (chosen octal (digits_at 8 at run) (digits_at 10 at run) (Ok (kind.Number v u)) f) [
        | inl (_, g) ↦ digits_fit 8 at run v u g
        | inr (_, g) ↦ digits_fit 10 at run v u g
      ]
    ]

proper_of : (bytes : List ℕ) (k : TokenKind) → Spells bytes k → IsProper k
proper_of bytes (kind.Name name) h =
    subst (λ (n : List ℕ). IsProper (kind.Name n)) (sym h.1) (h.0, h.2, no_keyword bytes (keyword_of bytes) refl h.3)
proper_of bytes (kind.Number v u) h = constant_fits 0 bytes v u h.1
proper_of bytes (kind.Keyword k) h = tt
proper_of bytes (kind.Char c) h = tt
proper_of bytes (kind.Text cs) h = tt
proper_of bytes (kind.Punct p) h = tt

abbrev AllProper : List TokenKind → Type 0
AllProper [] = Unit {0}
AllProper (k ∷ ks) = IsProper k × AllProper ks

all_proper : (source : List ℕ) (to at : ℕ) (ts : List Token) → Reads source to at ts → AllProper (kinds ts)
all_proper source to at _ (done _ e) = tt
all_proper source to at ts (trivia _ end _ less within g rest) = all_proper source to end ts rest
all_proper source to _ _ (token t ts stands rest) = (proper_of _ t.kind stands.spells, all_proper source to t.end ts rest)

-- ---- reading what is written

-- the tokens of what is written, from an offset on
abbrev placed : ℕ → List TokenKind → List Token
placed at [] = []
placed at (k ∷ ks) = record { kind = k; at = at; end = at + length (written k) } ∷ placed (at + length (written k) + 1) ks

kinds_placed : (at : ℕ) (ks : List TokenKind) → kinds (placed at ks) ≡ ks
kinds_placed at [] = refl
kinds_placed at (k ∷ ks) = ap (λ (js : List TokenKind). k ∷ js) (kinds_placed (at + length (written k) + 1) ks)

space_read : (at : ℕ) (more : List ℕ) → lexeme_at at (32 ∷ more) ≡ Ok (lexeme.Trivia 1)
unfolding lexeme_of start_of
space_read at more = refl

written_read : (count at : ℕ) (ks : List TokenKind) → AllProper ks → count + length ks ≤ most_tokens → tokens_from count at 0 (written_all ks) ≡ Ok (placed at ks)
written_read count at [] h few = refl
written_read count at (k ∷ ks) h few =
    let n = length (written k) in
    let more = written_all ks in
    let text : List ℕ = written k ++ 32 ∷ more in
    let scanned = kind_read k h.0 at more in
    let below : ltb count most_tokens ≡ true = lt-ltb count most_tokens (omega arith) in
    let passes : counted count at (lexeme_at at text) ≡ Ok (lexeme.Token k n) = ap (counted count at) scanned ∙ ap (λ b. cond b (Ok (lexeme.Token k n)) (Err (fault.ManyTokens at))) below in
    let some : 0 < length text = omega (arith, length-append (written k) (32 ∷ more)) in
    let fits = lexeme_fits at text (lexeme.Token k n) some scanned in
    let rest : drop n text ≡ 32 ∷ more = drop_at (written k) (32 ∷ more) n refl in
    let space : tokens_from (count + 1) (at + n) 0 (32 ∷ more) ≡ tokens_from (count + 1) (at + n + 1) 0 more =
    step (count + 1) (at + n) (32 ∷ more) (lexeme.Trivia 1) (ap (counted (count + 1) (at + n)) (space_read (at + n) more)) (omega arith) (omega arith) in
    step count at text (lexeme.Token k n) passes fits.0 some
    ∙ ap (λ (t : List ℕ). tokens_then (record { kind = k; at = at; end = at + n } ∷ []) (tokens_from (count + 1) (at + n) 0 t)) rest
    ∙ ap (tokens_then (record { kind = k; at = at; end = at + n } ∷ [])) (space ∙ written_read (count + 1) (at + n + 1) ks h.1 (omega arith))

-- ---- no include line begins it

blank_lexeme : (at b : ℕ) (bs : List ℕ) (k : TokenKind) (n : ℕ) (t : Bool) → is_inner_blank b ≡ true → is_line_end b ≡ t → lexeme_at at (b ∷ bs) ≡ Ok (lexeme.Token k n) → ⊥
unfolding lexeme_of start_of
blank_lexeme at b bs k n true blank line e =
    let s : start_of b ≡ start.LineEnd = rw line refl in
    let scanned = ap (λ s. lexeme_of s at (b ∷ bs)) (sym s) ∙ e in
    cc
blank_lexeme at b bs k n false blank line e =
    let s : start_of b ≡ start.Blank = rw (line, blank) refl in
    let scanned = ap (λ s. lexeme_of s at (b ∷ bs)) (sym s) ∙ e in
    cc

hash_lexeme : (at : ℕ) (bs : List ℕ) (k : TokenKind) (n : ℕ) → lexeme_at at (35 ∷ bs) ≡ Ok (lexeme.Token k n) → ⊥
unfolding lexeme_of start_of
hash_lexeme at bs k n e = cc

pub include_none : (b : ℕ) (bs : List ℕ) → is_inner_blank b ≡ false → eqb 35 b ≡ false → include_len (b ∷ bs) ≡ 0
unfolding past_include
include_none b bs blank hash =
    let line : List ℕ = b ∷ bs in
    let blanks : prefix_len is_inner_blank line ≡ 0 = ap (λ t. cond t (1 + prefix_len is_inner_blank bs) 0) blank in
    let here : past_blanks line ≡ line = ap (λ n. drop n line) blanks in
    let fails : starts_with nat_eq line (codes "#") ≡ false = ap (λ t. t && true) hash in
    let no_hash : past (codes "#") (past_blanks line) ≡ None = ap (past (codes "#")) here ∙ ap (λ t. cond t (Some (drop 1 line)) None) fails in
    let none : past_include line ≡ None =
    ap (option_and_then (λ a. option_and_then (λ b. option_and_then (λ c. cond (ends_line (past_blanks c)) (Some (past_blanks c)) None) (past_header (past_blanks b))) (past (codes "include")
    (past_blanks a)))) no_hash in
    ap (λ o. option_map_or (λ rest. length line - length rest) o 0) none

first_token : (text : List ℕ) (k : TokenKind) (n : ℕ) → lexeme_at 0 text ≡ Ok (lexeme.Token k n) → 0 < length text → include_len text ≡ 0
first_token [] k n e some = absurd (omega arith)
first_token (b ∷ bs) k n e some =
    include_none b bs (by_blank (is_inner_blank b) refl) (by_hash (eqb 35 b) refl)
  where
    by_blank : (t : Bool) → is_inner_blank b ≡ t → is_inner_blank b ≡ false
    by_blank true is = absurd (blank_lexeme 0 b bs k n (is_line_end b) is refl e)
    by_blank false is = is

    by_hash : (t : Bool) → eqb 35 b ≡ t → eqb 35 b ≡ false
    by_hash true is = let same : b ≡ 35 = grind (arith, nat_tests) in absurd (hash_lexeme 0 bs k n (ap (λ c. lexeme_at 0 (c ∷ bs)) (sym same) ∙ e))
    by_hash false is = is

written_no_include : (ks : List TokenKind) → AllProper ks → include_len (written_all ks) ≡ 0
unfolding past_include
written_no_include [] h = refl
written_no_include (k ∷ ks) h =
    first_token (written k ++ 32 ∷ written_all ks) k (length (written k)) (kind_read k h.0 0 (written_all ks)) (omega (arith, length-append (written k) (32 ∷ written_all ks)))

pub tokens_are_read_again : TokensAreReadAgain
unfolding lexed
tokens_are_read_again source ts e short =
    let ks = kinds ts in
    let proper = all_proper source (length source) 0 ts (lexed_reads source ts e).1 in
    let few : 0 + length ks ≤ most_tokens = omega (arith, (lexed_reads source ts e).0, length-map ts (λ (t : Token). t.kind)) in
    let text = written_all ks in
    let fits : ltb most_source_bytes (length text) ≡ false = le-ltb most_source_bytes (length text) short in (
      placed 0 ks,
      ap (λ b. cond b (Err (fault.LongSource most_source_bytes)) (tokens_from 0 0 (include_len text) text)) fits ∙ ap (λ i. tokens_from 0 0 i text) (written_no_include ks proper)
          ∙ written_read 0 0 ks proper few,
      kinds_placed 0 ks,
    )
