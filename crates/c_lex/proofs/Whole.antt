-- The tokens of a source, from the definition to the grammar.
use Rattle.std.proofs.Common.{◌≡◌, ℕ, zero, suc, ◌+◌, ◌-◌, ◌<◌, ◌≤◌, Bool, true, false, cond, eqb, ltb, ◌||◌, List, [], ◌∷◌, length, take, drop, Option, Some, None, Result, Ok, Err, codes, refl, sym, ap, ◌∙◌, subst, arith, inl, inr, zero-add, ◌&&◌, ◌⊎◌}
use Rattle.std.specs.Prelude.{nat_eq, slice_index, slice_range}
use Rattle.std.specs.Option.{ok_or, option_and_then}
use Rattle.std.specs.List.{starts_with, prefix_len, position_or_len}
use Rattle.std.proofs.lemmas.Bool.{cases_lt, ltb-false, ltb-true, or_left, or_right}
use Rattle.std.proofs.lemmas.List.{drop_all, drop-drop, length-drop}
use Rattle.base.specs.Limits.{most_name_bytes, most_source_bytes, most_tokens}
use Rattle.c_lex.specs.Results.{◌>>=◌}
use Rattle.c_lex.specs.Classes.{is_letter, is_digit, is_name_byte, is_number_byte, is_line_end, is_inner_blank}
use Rattle.c_lex.specs.Trivia.{comment_at, comment_end, line_comment, include_len}
use Rattle.c_lex.specs.Numbers.{number_at, constant_at}
use Rattle.c_lex.specs.Quoted.{closing_from, characters, only, char_at, string_at}
use Rattle.c_lex.specs.Keywords.{keyword_of}
use Rattle.c_lex.specs.Punctuators.{punct_at, punct_spelling}
use Rattle.c_lex.specs.Lexemes.{lexeme_at, lexeme_of, start_of, identifier_at, identifier_kind_of, slash_at, punct_lexeme}
use Rattle.c_lex.specs.Tokens.{tokens_from, counted, tokens_then, lexed}
use Rattle.c_lex.specs.Grammar.{IsLineStart, IsBlockComment, IsLineComment, IsIncludeLine, IsToken, Spells, Reads, done, trivia, token, Stands}
use Rattle.c_lex.specs.declared.fault.LexFault.{LexFault}
use Rattle.c_lex.specs.declared.fault.LexFault.TheVariants as fault
use Rattle.c_lex.specs.declared.lexeme.Lexeme.{Lexeme}
use Rattle.c_lex.specs.declared.lexeme.Lexeme.TheVariants as lexeme
use Rattle.c_lex.specs.declared.lexeme.Start.{Start}
use Rattle.c_lex.specs.declared.lexeme.Start.TheVariants as start
use Rattle.c_lex.specs.declared.punct.Punct.{Punct}
use Rattle.c_lex.specs.declared.token.Token.{Token}
use Rattle.c_lex.specs.declared.token.TokenKind.{TokenKind}
use Rattle.c_lex.specs.declared.token.TokenKind.TheVariants as kind
use Rattle.c_lex.proofs.Lengths.{bind_ok, ok_or_ok, chosen, found, lexeme_fits, start_by, include_within}
use Rattle.c_lex.proofs.Driver.{step, stops, skipped, counted_ok, token_counts}
use Rattle.c_lex.proofs.TriviaLaws.{include_is, line_comment_is, block_comment_is}
use Rattle.c_lex.specs.Faults.{IsLongest, IsFault, IsFaulty}
use Rattle.c_lex.proofs.Munch.{lexeme_longest}
use Rattle.c_lex.proofs.FaultLaws.{counted_fault}
use Rattle.c_lex.proofs.Complete.{on_line}
use Rattle.c_lex.proofs.Lines.{token_on_line, comment_on_line, line_free, range_is, first_is, next_text}
use Rattle.c_lex.proofs.Covered.{IsOutside, begun_within, included_outside, line_outside, block_outside}

-- ---- trivia

abbrev pub IsPassed : List ℕ → ℕ → ℕ → Type 0
IsPassed source at n = (to : ℕ) (ts : List Token) → Reads source to (at + n) ts → Reads source to at ts

-- these bytes are passed, and no include line covers their end
abbrev pub IsSkipped : List ℕ → ℕ → ℕ → Type 0
IsSkipped source at n = IsPassed source at n × (IsOutside source at → IsOutside source (at + n))

no_token : (k : TokenKind) (n m : ℕ) → found (lexeme.Token k n) ≡ found (lexeme.Trivia m) → ⊥
no_token k n m e = cc

identifier_no_trivia : (at : ℕ) (text : List ℕ) (n : ℕ) → identifier_at at text ≡ Ok (lexeme.Trivia n) → ⊥
unfolding identifier_at
identifier_no_trivia at text n e =
    let m = prefix_len is_name_byte text in
    elim (chosen (ltb most_name_bytes m) (Err (fault.LongName at)) (Ok (lexeme.Token (identifier_kind_of (take m text) (keyword_of (take m text))) m)) (Ok (lexeme.Trivia n)) e) [
      | inl (_, f) ↦ cc
      | inr (_, f) ↦ no_token _ m n f
    ]

number_no_trivia : (at : ℕ) (text : List ℕ) (n : ℕ) → number_at at text ≡ Ok (lexeme.Trivia n) → ⊥
unfolding number_at
number_no_trivia at text n e =
    let m = prefix_len is_number_byte text in
    let made = bind_ok (constant_at at (take m text)) (λ k. Ok (lexeme.Token k m)) (lexeme.Trivia n) e in
    no_token made.0 m n made.2

char_no_trivia : (at : ℕ) (text : List ℕ) (n : ℕ) → char_at at text ≡ Ok (lexeme.Trivia n) → ⊥
unfolding char_at
char_no_trivia at bs n e =
    let closed =
    bind_ok (ok_or (closing_from 39 false 0 bs) (fault.OpenText at)) (λ m. ok_or (option_and_then only (characters 0 (take m bs))) (fault.BadText at) >>= λ c. Ok (lexeme.Token (kind.Char c)
    (m + 2))) (lexeme.Trivia n) e in
    let made = bind_ok (ok_or (option_and_then only (characters 0 (take closed.0 bs))) (fault.BadText at)) (λ c. Ok (lexeme.Token (kind.Char c) (closed.0 + 2))) (lexeme.Trivia n) closed.2 in
    no_token (kind.Char made.0) (closed.0 + 2) n made.2

string_no_trivia : (at : ℕ) (text : List ℕ) (n : ℕ) → string_at at text ≡ Ok (lexeme.Trivia n) → ⊥
unfolding string_at
string_no_trivia at bs n e =
    let closed =
    bind_ok (ok_or (closing_from 34 false 0 bs) (fault.OpenText at)) (λ m. ok_or (characters 0 (take m bs)) (fault.BadText at) >>= λ c. Ok (lexeme.Token (kind.Text c) (m + 2)))
    (lexeme.Trivia n) e in
    let made = bind_ok (ok_or (characters 0 (take closed.0 bs)) (fault.BadText at)) (λ c. Ok (lexeme.Token (kind.Text c) (closed.0 + 2))) (lexeme.Trivia n) closed.2 in
    no_token (kind.Text made.0) (closed.0 + 2) n made.2

punct_no_trivia : (at : ℕ) (o : Option Punct) (n : ℕ) → punct_lexeme at o ≡ Ok (lexeme.Trivia n) → ⊥
punct_no_trivia at None n e = cc
punct_no_trivia at (Some p) n e = no_token (kind.Punct p) (length (punct_spelling p)) n e

trivia_is : (n m : ℕ) → found (lexeme.Trivia n) ≡ found (lexeme.Trivia m) → n ≡ m
trivia_is n m e = cc

slash_skipped : (source : List ℕ) (at n : ℕ) → at + n ≤ length source → 0 < n → slash_at at (drop at source) ≡ Ok (lexeme.Trivia n) → IsSkipped source at n
unfolding slash_at comment_at line_comment
slash_skipped source at n within some e =
    let text = drop at source in
    elim (chosen (starts_with nat_eq text (codes "/*")) (comment_at at (drop 2 text)) (cond (starts_with nat_eq text (codes "//")) (Ok (line_comment (drop 2 text))) (punct_lexeme at
    (punct_at text))) (Ok (lexeme.Trivia n)) e) [
      | inl (starts, f) ↦
          let made = bind_ok (ok_or (comment_end 0 (drop 2 text)) (fault.OpenComment at)) (λ m. Ok (lexeme.Trivia (m + 2))) (lexeme.Trivia n) f in
          let is = ok_or_ok (comment_end 0 (drop 2 text)) (fault.OpenComment at) made.0 made.1 in
          let size = trivia_is (made.0 + 2) n made.2 in
          let comment : IsBlockComment (take n text) = subst (λ (k : ℕ). IsBlockComment (take k text)) size (block_comment_is text made.0 starts is) in
          let here : IsBlockComment (slice_range source at (at + n)) = subst (λ (t : List ℕ). IsBlockComment t) (sym (range_is source at n)) comment in
          (λ to ts rest. trivia at (at + n) ts (omega arith) within (inr (inl here)) rest, block_outside source at n some within comment)
      | inr (_, f) ↦ elim (chosen (starts_with nat_eq text (codes "//")) (Ok (line_comment (drop 2 text))) (punct_lexeme at (punct_at text)) (Ok (lexeme.Trivia n)) f) [
        | inl (starts, g) ↦
            let size = trivia_is (position_or_len is_line_end (drop 2 text) + 2) n g in
            let comment = line_comment_is text n starts size in
            let following : drop n text ≡ drop (at + n) source = drop-drop n at source in
            let here : IsLineComment (slice_range source at (at + n)) (drop (at + n) source) =
            subst (λ (t : List ℕ). IsLineComment t (drop (at + n) source)) (sym (range_is source at n)) (subst (λ (t : List ℕ). IsLineComment (take n text) t) following comment) in
            (λ to ts rest. trivia at (at + n) ts (omega arith) within (inr (inr (inl here))) rest, line_outside source at n within (comment_on_line (take n text) (drop n text) comment))
        | inr (_, g) ↦ absurd (punct_no_trivia at (punct_at text) n g)
      ]
    ]

-- ---- line ends and blanks

line_by : (line blank letter digit quote double hash slash : Bool) → start_by line blank letter digit quote double hash slash ≡ start.LineEnd → line ≡ true
unfolding start_by
line_by true _ _ _ _ _ _ _ e = refl
line_by false true _ _ _ _ _ _ e = absurd cc
line_by false false true _ _ _ _ _ e = absurd cc
line_by false false false true _ _ _ _ e = absurd cc
line_by false false false false true _ _ _ e = absurd cc
line_by false false false false false true _ _ e = absurd cc
line_by false false false false false false true _ e = absurd cc
line_by false false false false false false false true e = absurd cc
line_by false false false false false false false false e = absurd cc

blank_by : (line blank letter digit quote double hash slash : Bool) → start_by line blank letter digit quote double hash slash ≡ start.Blank → blank ≡ true
unfolding start_by
blank_by true _ _ _ _ _ _ _ e = absurd cc
blank_by false true _ _ _ _ _ _ e = refl
blank_by false false true _ _ _ _ _ e = absurd cc
blank_by false false false true _ _ _ _ e = absurd cc
blank_by false false false false true _ _ _ e = absurd cc
blank_by false false false false false true _ _ e = absurd cc
blank_by false false false false false false true _ e = absurd cc
blank_by false false false false false false false true e = absurd cc
blank_by false false false false false false false false e = absurd cc

start_line : (b : ℕ) → start_of b ≡ start.LineEnd → is_line_end b ≡ true
unfolding start_of start_by
start_line b e = line_by (is_line_end b) (is_inner_blank b) (is_letter b) (is_digit b) (eqb b 39) (eqb b 34) (eqb b 35) (eqb b 47) e

start_blank : (b : ℕ) → start_of b ≡ start.Blank → is_inner_blank b ≡ true
unfolding start_of start_by
start_blank b e = blank_by (is_line_end b) (is_inner_blank b) (is_letter b) (is_digit b) (eqb b 39) (eqb b 34) (eqb b 35) (eqb b 47) e

-- an include line, where there is one, is passed over from the start of its line
include_passed : (source : List ℕ) (at n : ℕ) → IsLineStart source at → at + n ≤ length source → include_len (drop at source) ≡ n → IsPassed source at n
include_passed source at zero start within is to ts rest = let offset : at + 0 ≡ at = omega arith in subst (λ (i : ℕ). Reads source to i ts) offset rest
include_passed source at (suc n) start within is to ts rest =
    let line = include_is (drop at source) (suc n) is (omega arith) in
    let following : drop (suc n) (drop at source) ≡ drop (at + suc n) source = drop-drop (suc n) at source in
    trivia at (at + suc n) ts (omega arith) within (inr (inr (inr (
      start,
      subst (λ (t : List ℕ). IsIncludeLine t (drop (at + suc n) source)) (sym (range_is source at (suc n))) (subst (λ
          (t : List ℕ). IsIncludeLine (take (suc n) (drop at source)) t) following line),
    )))) rest

blank_passed : (source : List ℕ) (at : ℕ) → at + 1 ≤ length source → (is_line_end (slice_index source at) || is_inner_blank (slice_index source at)) ≡ true → IsPassed source at 1
blank_passed source at within is to ts rest = trivia at (at + 1) ts (omega arith) within (inl (refl, is)) rest

line_passed : (source : List ℕ) (at n b : ℕ) (bs : List ℕ) → drop at source ≡ b ∷ bs → is_line_end b ≡ true → at + n ≤ length source → include_len bs + 1 ≡ n → IsPassed source at n
line_passed source at n b bs split ends within size to ts rest =
    let next : drop (at + 1) source ≡ bs = sym (drop-drop 1 at source) ∙ ap (drop 1) split in
    let i = include_len bs in
    let len : include_len (drop (at + 1) source) ≡ i = ap include_len next in
    let offset : at + n ≡ at + 1 + i = omega arith in
    let ended : is_line_end (slice_index source at) ≡ true = ap is_line_end (first_is source at b bs split) ∙ ends in
    let back : at + 1 - 1 ≡ at = omega arith in
    let start : IsLineStart source (at + 1) = inr (omega arith, ap (λ j. is_line_end (slice_index source j)) back ∙ ended) in
    let following : Reads source to (at + 1) ts = include_passed source (at + 1) i start (omega arith) len to ts (subst (λ (j : ℕ). Reads source to j ts) offset rest) in
    blank_passed source at (omega arith) (or_left (is_line_end (slice_index source at)) (is_inner_blank (slice_index source at)) ended) to ts following

line_end_outside : (source : List ℕ) (at n b : ℕ) (bs : List ℕ) → drop at source ≡ b ∷ bs → include_len bs + 1 ≡ n → IsOutside source at → IsOutside source (at + n)
line_end_outside source at n b bs split size outside =
    let len : include_len (drop (at + 1) source) ≡ include_len bs = ap include_len (next_text source at b bs split) in
    let there : at + n ≡ at + 1 + include_len (drop (at + 1) source) = omega arith in
    begun_within source at n outside (λ h less. included_outside source (at + 1) (at + n) there h (omega arith))

trivia_skipped_of : (s : Start) (source : List ℕ) (at n b : ℕ) (bs : List ℕ) → drop at source ≡ b ∷ bs → start_of b ≡ s → at + n ≤ length source → 0 < n →
    lexeme_of s at (b ∷ bs) ≡ Ok (lexeme.Trivia n) → IsSkipped source at n
unfolding lexeme_of
trivia_skipped_of start.LineEnd source at n b bs split is within some e =
    let size = trivia_is (include_len bs + 1) n e in
    (line_passed source at n b bs split (start_line b is) within size, line_end_outside source at n b bs split size)
trivia_skipped_of start.Blank source at n b bs split is within some e =
    let size = trivia_is 1 n e in
    let blank : is_inner_blank (slice_index source at) ≡ true = ap is_inner_blank (first_is source at b bs split) ∙ start_blank b is in
    let on : on_line (take 1 (drop at source)) ≡ true = ap (λ (t : List ℕ). on_line (take 1 t)) split ∙ ap (λ t. t && true) (line_free is_inner_blank b refl (start_blank b is)) in
    let skipped_one : IsSkipped source at 1 = (
      λ to ts rest. blank_passed source at (omega arith) (or_right (is_line_end (slice_index source at)) (is_inner_blank (slice_index source at)) blank) to ts rest,
      line_outside source at 1 (omega arith) on,
    ) in
    subst (λ (k : ℕ). IsSkipped source at k) size skipped_one
trivia_skipped_of start.Letter source at n b bs split is within some e = absurd (identifier_no_trivia at (b ∷ bs) n e)
trivia_skipped_of start.Digit source at n b bs split is within some e = absurd (number_no_trivia at (b ∷ bs) n e)
trivia_skipped_of start.Quote source at n b bs split is within some e = absurd (char_no_trivia at bs n e)
trivia_skipped_of start.DoubleQuote source at n b bs split is within some e = absurd (string_no_trivia at bs n e)
trivia_skipped_of start.Hash source at n b bs split is within some e = absurd cc
trivia_skipped_of start.Slash source at n b bs split is within some e = slash_skipped source at n within some (ap (slash_at at) split ∙ e)
trivia_skipped_of start.Other source at n b bs split is within some e = absurd (punct_no_trivia at (punct_at (b ∷ bs)) n e)

trivia_skipped : (source : List ℕ) (at n : ℕ) (text : List ℕ) → drop at source ≡ text → 0 < length text → at + n ≤ length source → 0 < n → lexeme_at at text ≡ Ok (lexeme.Trivia n) →
    IsSkipped source at n
trivia_skipped source at n [] split some within pos e = absurd (omega arith)
trivia_skipped source at n (b ∷ bs) split some within pos e = trivia_skipped_of (start_of b) source at n b bs split refl within pos e

-- ---- tokens

token_stands : (source : List ℕ) (at n : ℕ) (k : TokenKind) → 0 < n → at + n ≤ length source → IsLongest (drop at source) n k → Stands source (record { kind = k; at = at; end = at + n })
token_stands source at n k some within h = record {
  some = omega arith;
  within = within;
  no_comment = h.no_comment;
  token = subst (λ (t : List ℕ). IsToken t) (sym (range_is source at n)) h.token;
  spells = subst (λ (t : List ℕ). Spells t k) (sym (range_is source at n)) h.spells;
  longest = λ end more fits is. h.longest (end - at) (omega arith) (omega (arith, length-drop at source)) is;
}

-- ---- all of a source

abbrev no_tokens : LexFault → Result (List Token) LexFault
no_tokens f = Err f

-- What the tokens from an offset on say of the source, after `count` tokens.
abbrev pub Outcome : List ℕ → ℕ → ℕ → Result (List Token) LexFault → Type 0
Outcome source count at (Ok ts) = (count + length ts ≤ most_tokens) × Reads source (length source) at ts
Outcome source count at (Err f) =
    (ts : List Token) × (offset : ℕ) × (count + length ts ≤ most_tokens) × Reads source offset at ts × IsOutside source offset × IsFault (drop offset source) (count + length ts) offset f

passed_outcome : (source : List ℕ) (count at n : ℕ) (r : Result (List Token) LexFault) → IsPassed source at n → Outcome source count (at + n) r → Outcome source count at r
passed_outcome source count at n (Ok ts) passed rest = (rest.0, passed (length source) ts rest.1)
passed_outcome source count at n (Err f) passed rest = (rest.0, rest.1, rest.2, passed rest.1 rest.0 rest.3, rest.4, rest.5)

token_outcome : (source : List ℕ) (count : ℕ) (t : Token) (r : Result (List Token) LexFault) → Stands source t → Outcome source (count + 1) t.end r → Outcome source count t.at (tokens_then (t ∷ []) r)
token_outcome source count t (Ok ts) stands rest = (omega (arith, rest.0), token t ts stands rest.1)
token_outcome source count t (Err f) stands rest =
    let size : count + 1 + length rest.0 ≡ count + suc (length rest.0) = omega arith in
    (t ∷ rest.0, rest.1, omega (arith, rest.2), token t rest.0 stands rest.3, rest.4, subst (λ (c : ℕ). IsFault (drop rest.1 source) c rest.1 f) size rest.5)

-- what is after the next lexeme
abbrev Next : List ℕ → ℕ → Type 0
Next source at =
    (count offset : ℕ) → at < offset → offset ≤ length source → count ≤ most_tokens → IsOutside source offset → Outcome source count offset (tokens_from count offset 0 (drop offset source))

by_lexeme : (source : List ℕ) (count at : ℕ) (r : Result Lexeme LexFault) → at < length source → count ≤ most_tokens → IsOutside source at → Next source at →
    counted count at (lexeme_at at (drop at source)) ≡ r → Outcome source count at (tokens_from count at 0 (drop at source))
by_lexeme source count at (Err f) less low outside next is =
    let some : 0 < length (drop at source) = omega (arith, length-drop at source) in
    let stop = stops count at (drop at source) f is some in
    let none : count ≡ count + 0 = omega arith in
    let faulty = subst (λ (c : ℕ). IsFault (drop at source) c at f) none (counted_fault count at (drop at source) f some is) in
    subst (λ (r : Result (List Token) LexFault). Outcome source count at r) (sym stop) ([], at, omega arith, done at refl, outside, faulty)
by_lexeme source count at (Ok (lexeme.Trivia n)) less low outside next is =
    let text = drop at source in
    let some : 0 < length text = omega (arith, length-drop at source) in
    let scanned = counted_ok count at (lexeme_at at text) (lexeme.Trivia n) is in
    let fits = lexeme_fits at text (lexeme.Trivia n) some scanned in
    let within : at + n ≤ length source = omega (arith, length-drop at source, fits.1) in
    let more : drop n text ≡ drop (at + n) source = drop-drop n at source in
    let there : tokens_from count (at + n) 0 (drop (at + n) source) ≡ tokens_from count at 0 text = ap (tokens_from count (at + n) 0) (sym more)
    ∙ sym (step count at text (lexeme.Trivia n) is fits.0 some) in
    let skipped_it = trivia_skipped source at n text refl some within fits.0 scanned in
    subst (λ (r : Result (List Token) LexFault). Outcome source count at r) there (passed_outcome source count at n (tokens_from count (at + n) 0 (drop (at + n) source)) (skipped_it.0)
    (next count (at + n) (omega (arith, fits.0)) within low (skipped_it.1 outside)))
by_lexeme source count at (Ok (lexeme.Token k n)) less low outside next is =
    let text = drop at source in
    let some : 0 < length text = omega (arith, length-drop at source) in
    let scanned = counted_ok count at (lexeme_at at text) (lexeme.Token k n) is in
    let fits = lexeme_fits at text (lexeme.Token k n) some scanned in
    let within : at + n ≤ length source = omega (arith, length-drop at source, fits.1) in
    let more : drop n text ≡ drop (at + n) source = drop-drop n at source in
    let t : Token = record { kind = k; at = at; end = at + n } in
    let there : tokens_then (t ∷ []) (tokens_from (count + 1) (at + n) 0 (drop (at + n) source)) ≡ tokens_from count at 0 text =
    ap (λ (u : List ℕ). tokens_then (t ∷ []) (tokens_from (count + 1) (at + n) 0 u)) (sym more) ∙ sym (step count at text (lexeme.Token k n) is fits.0 some) in
    let longest = lexeme_longest at text n k some scanned in
    let stands = token_stands source at n k fits.0 within longest in
    let below = token_counts count at (lexeme_at at text) k n is scanned in
    let after = line_outside source at n within (token_on_line (take n text) longest.token) outside in
    subst (λ (r : Result (List Token) LexFault). Outcome source count at r) there (token_outcome source count t (tokens_from (count + 1) (at + n) 0 (drop (at + n) source)) stands (next
    (count + 1) (at + n) (omega (arith, fits.0)) within (omega arith) after))

outcome_from : (fuel : ℕ) (source : List ℕ) (count at : ℕ) → length source ≤ at + fuel → at ≤ length source → count ≤ most_tokens → IsOutside source at →
    Outcome source count at (tokens_from count at 0 (drop at source))
outcome_from zero source count at enough within low outside =
    let none : drop at source ≡ [] = drop_all at source (omega arith) in
    let made : Ok [] ≡ tokens_from count at 0 (drop at source) = ap (tokens_from count at 0) (sym none) in
    subst (λ (r : Result (List Token) LexFault). Outcome source count at r) made (omega arith, done at (omega arith))
outcome_from (suc fuel) source count at enough within low outside =
    elim (cases_lt at (length source)) [
      | inl less ↦ by_lexeme source count at (counted count at (lexeme_at at (drop at source))) less low outside (λ c offset later fits few out. outcome_from fuel source c offset
          (omega arith) fits few out) refl
      | inr over ↦
          let none : drop at source ≡ [] = drop_all at source over in
          let made : Ok [] ≡ tokens_from count at 0 (drop at source) = ap (tokens_from count at 0) (sym none) in
          subst (λ (r : Result (List Token) LexFault). Outcome source count at r) made (omega arith, done at (omega arith))
    ]

-- the whole source, its first line included
whole : (source : List ℕ) → Outcome source 0 0 (tokens_from 0 0 (include_len source) source)
whole source =
    let i = include_len source in
    let within : i ≤ length source = include_within source in
    let there : tokens_from 0 (0 + i) 0 (drop (0 + i) source) ≡ tokens_from 0 0 i source = ap (λ j. tokens_from 0 (0 + i) 0 (drop j source)) (zero-add i) ∙ sym (skipped 0 0 i source) in
    let out : IsOutside source (0 + i) = λ h. included_outside source 0 (0 + i) refl h (omega arith) in
    let outcome = outcome_from (length source) source 0 (0 + i) (omega arith) (omega arith) (omega arith) out in
    subst (λ (r : Result (List Token) LexFault). Outcome source 0 0 r) there (passed_outcome source 0 0 i (tokens_from 0 (0 + i) 0 (drop (0 + i) source)) (include_passed source 0 i (inl refl)
    (omega arith) refl) outcome)

pub lexed_reads : (source : List ℕ) (ts : List Token) → lexed source ≡ Ok ts → (length ts ≤ most_tokens) × Reads source (length source) 0 ts
unfolding lexed
lexed_reads source ts e =
    let from = tokens_from 0 0 (include_len source) source in
    elim (chosen (ltb most_source_bytes (length source)) (Err (fault.LongSource most_source_bytes)) from (Ok ts) e) [
      | inl (_, f) ↦ absurd cc
      | inr (_, f) ↦
          let outcome = subst (λ (r : Result (List Token) LexFault). Outcome source 0 0 r) f (whole source) in
          (omega (arith, outcome.0), outcome.1)
    ]

pub lexed_faulty : (source : List ℕ) (f : LexFault) → lexed source ≡ Err f → ((most_source_bytes < length source) × (f ≡ fault.LongSource most_source_bytes)) ⊎ IsFaulty source f
unfolding lexed
lexed_faulty source g e =
    let from = tokens_from 0 0 (include_len source) source in
    elim (chosen (ltb most_source_bytes (length source)) (Err (fault.LongSource most_source_bytes)) from (Err g) e) [
      | inl (long, f) ↦ inl (ltb-true most_source_bytes (length source) long, same_fault (fault.LongSource most_source_bytes) g f)
      | inr (short, f) ↦
          let outcome = subst (λ (r : Result (List Token) LexFault). Outcome source 0 0 r) f (whole source) in
          let count : 0 + length outcome.0 ≡ length outcome.0 = zero-add (length outcome.0) in
          inr (record {
            short = ltb-false most_source_bytes (length source) short;
            tokens = outcome.0;
            few = omega (arith, outcome.2);
            offset = outcome.1;
            reads = outcome.3;
            outside = outcome.4;
            fault = subst (λ (c : ℕ). IsFault (drop outcome.1 source) c outcome.1 g) count outcome.5;
          })
    ]
  where
    same_fault : (x y : LexFault) → no_tokens x ≡ no_tokens y → y ≡ x
    same_fault x y f = cc
