-- Where a source is wrong, the definition gives that fault.
use Rattle.std.proofs.Common.{◌≡◌, ◌⊎◌, ℕ, zero, suc, ◌+◌, ◌<◌, ◌≤◌, true, false, cond, ltb, List, [], ◌∷◌, ◌++◌, length, take, drop, Option, Some, None, Result, Ok, Err, codes, refl, sym, ap, ◌∙◌, subst, arith, inl, inr, append_assoc}
use Rattle.std.specs.Prelude.{nat_eq, slice_index}
use Rattle.std.specs.Option.{ok_or, option_and_then}
use Rattle.std.specs.List.{prefix_len, starts_with}
use Rattle.std.proofs.lemmas.Bool.{lt-ltb, le-ltb, false_from_ne_true, ne_eqb}
use Rattle.std.proofs.lemmas.List.{length-take, length-take-le, take-append-drop, take_at}
use Rattle.std.proofs.lemmas.List.Sums.{prefix_len-le-length}
use Rattle.base.specs.Limits.{most_name_bytes, most_tokens}
use Rattle.c_lex.specs.Results.{◌>>=◌}
use Rattle.c_lex.specs.Classes.{is_letter, is_digit, is_name_byte, is_number_byte, is_line_end, is_inner_blank}
use Rattle.c_lex.specs.Keywords.{keyword_of}
use Rattle.c_lex.specs.Punctuators.{punct_at, punct_spelling}
use Rattle.c_lex.specs.Numbers.{number_at, constant_at}
use Rattle.c_lex.specs.Quoted.{closing_from, characters, only, char_at, string_at}
use Rattle.c_lex.specs.Trivia.{comment_at, comment_end}
use Rattle.c_lex.specs.Lexemes.{lexeme_at, lexeme_of, start_of, identifier_at, identifier_kind_of, slash_at, punct_lexeme}
use Rattle.c_lex.specs.Tokens.{counted}
use Rattle.c_lex.specs.Grammar.{IsQuoted}
use Rattle.c_lex.specs.Faults.{IsLongest, IsLongestNumber, IsLongestIdentifier, BeginsNothing, IsOpen, IsEnclosed, IsNoConstant, IsFault}
use Rattle.c_lex.specs.declared.fault.LexFault.{LexFault}
use Rattle.c_lex.specs.declared.fault.LexFault.TheVariants as fault
use Rattle.c_lex.specs.declared.lexeme.Lexeme.{Lexeme}
use Rattle.c_lex.specs.declared.lexeme.Lexeme.TheVariants as lexeme
use Rattle.c_lex.specs.declared.lexeme.Start.TheVariants as start
use Rattle.c_lex.specs.declared.punct.Punct.{Punct}
use Rattle.c_lex.specs.declared.punct.Punct.TheVariants as mark
use Rattle.c_lex.specs.declared.token.TokenKind.{TokenKind}
use Rattle.c_lex.specs.declared.token.TokenKind.TheVariants as kind
use Rattle.c_lex.proofs.Lengths.{closing_within, starts_long}
use Rattle.c_lex.proofs.Tables.{punct_begins}
use Rattle.c_lex.proofs.Sorts.{closed_found}
use Rattle.c_lex.proofs.Munch.{identifier_is, number_is, only_is, quoted_is}
use Rattle.c_lex.proofs.Reading.{letter_starts, identifier_all}
use Rattle.c_lex.proofs.Complete.{run_is, head_is, tail_is, digit_starts, number_all, token_lexeme}
use Rattle.c_lex.proofs.TriviaLaws.{begins}
use Rattle.c_lex.proofs.FaultLaws.{no_empty}

-- what the definition reads at the offset is this fault
abbrev Finds : List ℕ → ℕ → LexFault → Type 0
Finds text at f = (0 < length text) × (lexeme_at at text ≡ Err f)

-- ---- bytes that begin nothing

one_less : (b : ℕ) (bs : List ℕ) → 1 ≤ length (b ∷ bs)
one_less b bs = omega arith

byte_found : (at b : ℕ) (bs : List ℕ) → BeginsNothing (b ∷ bs) → lexeme_at at (b ∷ bs) ≡ Err (fault.BadByte at)
unfolding lexeme_of start_of
byte_found at b bs h =
    let letter : is_letter b ≡ false = false_from_ne_true (is_letter b) (λ e. h.no_token 1 (one_less b bs) (inl (e, refl))) in
    let digit : is_digit b ≡ false = false_from_ne_true (is_digit b) (λ e. h.no_token 1 (one_less b bs) (inr (inl (e, refl)))) in
    let quote = ne_eqb b 39 h.no_quote in
    let double = ne_eqb b 34 h.no_double_quote in
    let hash = ne_eqb b 35 h.no_hash in
    let slash = ne_eqb b 47 (λ same. h.no_token 1 (one_less b bs) (inr (inr (inr (inr (mark.Slash, ap (λ (c : ℕ). c ∷ []) (sym same))))))) in
    let line : is_line_end b ≡ false = h.no_line_end in
    let blank : is_inner_blank b ≡ false = h.no_blank in
    let other : start_of b ≡ start.Other = rw (line, blank, letter, digit, quote, double, hash, slash) refl in
    ap (λ s. lexeme_of s at (b ∷ bs)) other ∙ ap (punct_lexeme at) (no_punct (punct_at (b ∷ bs)) refl)
  where
    no_punct : (o : Option Punct) → punct_at (b ∷ bs) ≡ o → o ≡ None
    no_punct None e = refl
    no_punct (Some p) e =
        let spelled = punct_begins (b ∷ bs) p e in
        absurd (h.no_token (length (punct_spelling p)) (omega (arith, ap length spelled, length-take (length (punct_spelling p)) (b ∷ bs))) (inr (inr (inr (inr (p, sym spelled))))))

byte_finds : (at : ℕ) (text : List ℕ) → BeginsNothing text → Finds text at (fault.BadByte at)
byte_finds at [] h = absurd (omega (arith, h.some))
byte_finds at (b ∷ bs) h = (h.some, byte_found at b bs h)

-- ---- comments

comment_none : (at : ℕ) (text : List ℕ) → ((n : ℕ) → starts_with nat_eq (drop n text) (codes "*/") ≡ false) → comment_end at text ≡ None
comment_none at [] h = refl
comment_none at (b ∷ bs) h = ap (λ t. cond t (Some (at + 2)) (comment_end (at + 1) bs)) (h 0) ∙ comment_none (at + 1) bs (λ n. h (suc n))

open_comment : (at : ℕ) (rest : List ℕ) → comment_end 0 rest ≡ None → lexeme_at at (codes "/*" ++ rest) ≡ Err (fault.OpenComment at)
unfolding lexeme_of start_of slash_at comment_at
open_comment at rest none = ap (λ o. ok_or o (fault.OpenComment at) >>= λ m. Ok (lexeme.Trivia (m + 2))) none

comment_finds : (at : ℕ) (text : List ℕ) → starts_with nat_eq text (codes "/*") ≡ true → ((n : ℕ) → starts_with nat_eq (drop n (drop 2 text)) (codes "*/") ≡ false) →
    Finds text at (fault.OpenComment at)
comment_finds at text starts never =
    let long = starts_long text (codes "/*") starts in
    (omega arith, ap (lexeme_at at) (begins text (codes "/*") starts) ∙ open_comment at (drop 2 text) (comment_none 0 (drop 2 text) never))

-- ---- quotes

no_closing : (quote b : ℕ) (bs : List ℕ) → IsOpen quote (b ∷ bs) → closing_from quote false 0 bs ≡ None
no_closing quote b bs h = by_found (closing_from quote false 0 bs) refl
  where
    by_found : (o : Option ℕ) → closing_from quote false 0 bs ≡ o → o ≡ None
    by_found None e = refl
    by_found (Some m) e = absurd (h.1 (m + 2) (omega (arith, (closing_within quote false 0 bs m e).1)) (quoted_is quote b m bs h.0 e))

char_open : (at b : ℕ) (bs : List ℕ) → b ≡ 39 → closing_from 39 false 0 bs ≡ None → lexeme_at at (b ∷ bs) ≡ Err (fault.OpenText at)
unfolding lexeme_of start_of char_at
char_open at b bs quote none =
    let make : ℕ → Result Lexeme LexFault = λ m. ok_or (option_and_then only (characters 0 (take m bs))) (fault.BadText at) >>= λ d. Ok (lexeme.Token (kind.Char d) (m + 2)) in
    ap (λ x. lexeme_at at (x ∷ bs)) quote ∙ ap (λ o. ok_or o (fault.OpenText at) >>= make) none

string_open : (at b : ℕ) (bs : List ℕ) → b ≡ 34 → closing_from 34 false 0 bs ≡ None → lexeme_at at (b ∷ bs) ≡ Err (fault.OpenText at)
unfolding lexeme_of start_of string_at
string_open at b bs quote none =
    let make : ℕ → Result Lexeme LexFault = λ m. ok_or (characters 0 (take m bs)) (fault.BadText at) >>= λ d. Ok (lexeme.Token (kind.Text d) (m + 2)) in
    ap (λ x. lexeme_at at (x ∷ bs)) quote ∙ ap (λ o. ok_or o (fault.OpenText at) >>= make) none

open_finds : (at : ℕ) (text : List ℕ) → IsOpen 39 text ⊎ IsOpen 34 text → Finds text at (fault.OpenText at)
open_finds at [] (inl h) = absurd (omega (arith, h.0))
open_finds at [] (inr h) = absurd (omega (arith, h.0))
open_finds at (b ∷ bs) (inl h) = (omega arith, char_open at b bs h.0 (no_closing 39 b bs h))
open_finds at (b ∷ bs) (inr h) = (omega arith, string_open at b bs h.0 (no_closing 34 b bs h))

-- what stands between quotes is found
record IsFound (quote b : ℕ) (bs inner : List ℕ) : Type 0 where
  first : b ≡ quote
  closes_at : closing_from quote false 0 bs ≡ Some (length inner)
  front : take (length inner) bs ≡ inner

enclosed_found : (quote b : ℕ) (bs inner : List ℕ) → (quote ≡ 10 → ⊥) → (quote ≡ 92 → ⊥) → IsEnclosed quote (b ∷ bs) inner → IsFound quote b bs inner
enclosed_found quote b bs inner q10 q92 h =
    let k = length inner in
    let two : k + 2 ≡ suc (suc k) = omega arith in
    let spelled : b ∷ take (suc k) bs ≡ quote ∷ (inner ++ quote ∷ []) = ap (λ n. take n (b ∷ bs)) (sym two) ∙ h.2 in
    let closed = subst (λ (n : ℕ). IsQuoted quote (take n (b ∷ bs))) two h.1 in
    let tail : take (suc k) bs ≡ inner ++ quote ∷ [] = tail_is b quote (take (suc k) bs) (inner ++ quote ∷ []) spelled in
    let fits : suc k ≤ length bs = omega (arith, h.0) in
    let size : length (take (suc k) bs) ≡ suc k = length-take-le (suc k) bs fits in
    let there = closed_found quote 0 k (take (suc k) bs) (drop (suc k) bs) q10 q92 size closed.1 in
    let zero_k : 0 + k ≡ k = omega arith in
    let whole : bs ≡ inner ++ (quote ∷ [] ++ drop (suc k) bs) =
    sym (take-append-drop (suc k) bs) ∙ ap (λ (t : List ℕ). t ++ drop (suc k) bs) tail ∙ append_assoc inner (quote ∷ []) (drop (suc k) bs) in
    record {
      first = head_is b quote (take (suc k) bs) (inner ++ quote ∷ []) spelled;
      closes_at = ap (closing_from quote false 0) (sym (take-append-drop (suc k) bs)) ∙ there ∙ ap Some zero_k;
      front = ap (take k) whole ∙ take_at inner (quote ∷ [] ++ drop (suc k) bs) k refl;
    }

char_bad : (at b : ℕ) (bs inner : List ℕ) → IsFound 39 b bs inner → ((c : ℕ) → characters 0 inner ≡ Some (c ∷ []) → ⊥) → lexeme_at at (b ∷ bs) ≡ Err (fault.BadText at)
unfolding lexeme_of start_of char_at
char_bad at b bs inner h bad =
    let make : ℕ → Result Lexeme LexFault = λ m. ok_or (option_and_then only (characters 0 (take m bs))) (fault.BadText at) >>= λ d. Ok (lexeme.Token (kind.Char d) (m + 2)) in
    ap (λ x. lexeme_at at (x ∷ bs)) h.first
    ∙ ap (λ o. ok_or o (fault.OpenText at) >>= make) h.closes_at
    ∙ ap (λ (t : List ℕ). ok_or (option_and_then only (characters 0 t)) (fault.BadText at) >>= λ d. Ok (lexeme.Token (kind.Char d) (length inner + 2))) h.front
    ∙ ap (λ o. ok_or o (fault.BadText at) >>= λ d. Ok (lexeme.Token (kind.Char d) (length inner + 2))) (by_only (option_and_then only (characters 0 inner)) refl)
  where
    by_only : (o : Option ℕ) → option_and_then only (characters 0 inner) ≡ o → o ≡ None
    by_only None e = refl
    by_only (Some c) e = absurd (bad c (only_is (characters 0 inner) c e))

string_bad : (at b : ℕ) (bs inner : List ℕ) → IsFound 34 b bs inner → characters 0 inner ≡ None → lexeme_at at (b ∷ bs) ≡ Err (fault.BadText at)
unfolding lexeme_of start_of string_at
string_bad at b bs inner h bad =
    let make : ℕ → Result Lexeme LexFault = λ m. ok_or (characters 0 (take m bs)) (fault.BadText at) >>= λ d. Ok (lexeme.Token (kind.Text d) (m + 2)) in
    ap (λ x. lexeme_at at (x ∷ bs)) h.first
    ∙ ap (λ o. ok_or o (fault.OpenText at) >>= make) h.closes_at
    ∙ ap (λ (t : List ℕ). ok_or (characters 0 t) (fault.BadText at) >>= λ d. Ok (lexeme.Token (kind.Text d) (length inner + 2))) h.front
    ∙ ap (λ o. ok_or o (fault.BadText at) >>= λ d. Ok (lexeme.Token (kind.Text d) (length inner + 2))) bad

bad_finds : (at : ℕ) (text inner : List ℕ) → (IsEnclosed 39 text inner × ((c : ℕ) → characters 0 inner ≡ Some (c ∷ []) → ⊥)) ⊎ (IsEnclosed 34 text inner × (characters 0 inner ≡ None)) →
    Finds text at (fault.BadText at)
bad_finds at [] inner (inl h) = absurd (omega (arith, h.0.0))
bad_finds at [] inner (inr h) = absurd (omega (arith, h.0.0))
bad_finds at (b ∷ bs) inner (inl h) = (omega arith, char_bad at b bs inner (enclosed_found 39 b bs inner (λ q. omega arith) (λ q. omega arith) h.0) h.1)
bad_finds at (b ∷ bs) inner (inr h) = (omega arith, string_bad at b bs inner (enclosed_found 34 b bs inner (λ q. omega arith) (λ q. omega arith) h.0) h.1)

-- ---- numbers and names

number_found : (at b n : ℕ) (bs : List ℕ) (f : LexFault) → IsLongestNumber (b ∷ bs) (suc n) → constant_at at (take (suc n) (b ∷ bs)) ≡ Err f → lexeme_at at (b ∷ bs) ≡ Err f
unfolding lexeme_of number_at
number_found at b n bs f h is =
    let text : List ℕ = b ∷ bs in
    let run : prefix_len is_number_byte text ≡ suc n =
    run_is is_number_byte text (suc n) h.within (number_all b (take n bs) h.number) (λ less. h.longest (prefix_len is_number_byte text) less (prefix_len-le-length is_number_byte text) (inr (inl
    (number_is b bs h.number.0)))) in
    ap (λ s. lexeme_of s at text) (digit_starts b h.number.0)
    ∙ ap (λ m. constant_at at (take m text) >>= λ k. Ok (lexeme.Token k m)) run
    ∙ ap (λ r. r >>= λ k. Ok (lexeme.Token k (suc n))) is

number_finds : (at : ℕ) (text : List ℕ) (f : LexFault) → IsNoConstant text at f → Finds text at f
number_finds at [] f (zero, h, is) = absurd h.number
number_finds at [] f (suc n, h, is) = absurd h.number
number_finds at (b ∷ bs) f (zero, h, is) = absurd h.number
number_finds at (b ∷ bs) f (suc n, h, is) = (omega arith, number_found at b n bs f h is)

name_found : (at b n : ℕ) (bs : List ℕ) → most_name_bytes < suc n → IsLongestIdentifier (b ∷ bs) (suc n) → lexeme_at at (b ∷ bs) ≡ Err (fault.LongName at)
unfolding lexeme_of identifier_at
name_found at b n bs long h =
    let text : List ℕ = b ∷ bs in
    let run : prefix_len is_name_byte text ≡ suc n =
    run_is is_name_byte text (suc n) h.within (identifier_all b (take n bs) h.identifier) (λ less. h.longest (prefix_len is_name_byte text) less (prefix_len-le-length is_name_byte text) (inl
    (identifier_is b bs h.identifier.0))) in
    ap (λ s. lexeme_of s at text) (letter_starts b h.identifier.0)
    ∙ ap (λ m. cond (ltb most_name_bytes m) (Err (fault.LongName at)) (Ok (lexeme.Token (identifier_kind_of (take m text) (keyword_of (take m text))) m))) run
    ∙ ap (λ t. cond t (Err (fault.LongName at)) (Ok (lexeme.Token (identifier_kind_of (take (suc n) text) (keyword_of (take (suc n) text))) (suc n)))) (lt-ltb most_name_bytes (suc n) long)

name_finds : (at n : ℕ) (text : List ℕ) → most_name_bytes < n → IsLongestIdentifier text n → Finds text at (fault.LongName at)
name_finds at zero text long h = absurd (omega arith)
name_finds at (suc n) [] long h = absurd h.identifier
name_finds at (suc n) (b ∷ bs) long h = (omega arith, name_found at b n bs long h)

-- ---- directives

hash_finds : (at : ℕ) (text : List ℕ) → slice_index text 0 ≡ 35 → Finds text at (fault.Directive at)
unfolding lexeme_of start_of
hash_finds at [] is = absurd (omega arith)
hash_finds at (b ∷ bs) is = (omega arith, ap (λ x. lexeme_at at (x ∷ bs)) is)

-- ---- with the count

abbrev refused : LexFault → Result Lexeme LexFault
refused f = Err f

-- what the definition reads at the offset after `count` tokens is this fault
abbrev pub FindsAfter : List ℕ → ℕ → ℕ → LexFault → Type 0
FindsAfter text count at f = (0 < length text) × (counted count at (lexeme_at at text) ≡ Err f)

many_finds : (count at n : ℕ) (text : List ℕ) (k : TokenKind) → most_tokens ≤ count → n ≤ length text → IsLongest text n k → FindsAfter text count at (fault.ManyTokens at)
many_finds count at zero [] k many within h = absurd (no_empty h.token)
many_finds count at zero (b ∷ bs) k many within h = absurd (no_empty h.token)
many_finds count at (suc n) [] k many within h = absurd (omega arith)
many_finds count at (suc n) (b ∷ bs) k many within h =
    (omega arith, ap (counted count at) (token_lexeme at b bs n k within h) ∙ ap (λ t. cond t (Ok (lexeme.Token k (suc n))) (Err (fault.ManyTokens at))) (le-ltb count most_tokens many))

many_numbers : (count at : ℕ) (text : List ℕ) → most_tokens ≤ count → IsNoConstant text at (fault.BadNumber at) → FindsAfter text count at (fault.ManyTokens at)
many_numbers count at text many h =
    let found = number_finds at text (fault.BadNumber at) h in
    (found.0, ap (counted count at) found.1 ∙ ap (λ t. cond t (refused (fault.BadNumber at)) (Err (fault.ManyTokens at))) (le-ltb count most_tokens many))

-- a fault that comes whatever the count is
always : (text : List ℕ) (count at offset : ℕ) (make : ℕ → LexFault) → offset ≡ at → counted count at (refused (make at)) ≡ Err (make at) → Finds text at (make at) →
    FindsAfter text count at (make offset)
always text count at offset make same passes found =
    (found.0, ap (counted count at) found.1 ∙ passes ∙ ap (λ i. refused (make i)) (sym same))

pub fault_found : (text : List ℕ) (count at : ℕ) (f : LexFault) → IsFault text count at f → FindsAfter text count at f
fault_found text count at (fault.BadByte offset) h = always text count at offset fault.BadByte h.0 refl (byte_finds at text h.1)
fault_found text count at (fault.OpenComment offset) h = always text count at offset fault.OpenComment h.0 refl (comment_finds at text h.1 h.2)
fault_found text count at (fault.OpenText offset) h = always text count at offset fault.OpenText h.0 refl (open_finds at text h.1)
fault_found text count at (fault.BadText offset) h = always text count at offset fault.BadText h.0 refl (bad_finds at text h.1.0 h.1.1)
fault_found text count at (fault.TooWide offset) h = always text count at offset fault.TooWide h.0 refl (number_finds at text (fault.TooWide at) h.1)
fault_found text count at (fault.LongName offset) h = always text count at offset fault.LongName h.0 refl (name_finds at h.1.0 text h.1.1 h.1.2)
fault_found text count at (fault.Directive offset) h = always text count at offset fault.Directive h.0 refl (hash_finds at text h.1)
fault_found text count at (fault.BadNumber offset) h =
    always text count at offset fault.BadNumber h.0 (ap (λ t. cond t (refused (fault.BadNumber at)) (Err (fault.ManyTokens at))) (lt-ltb count most_tokens h.1)) (number_finds at text
    (fault.BadNumber at) h.2)
fault_found text count at (fault.ManyTokens offset) h =
    subst (λ (i : ℕ). FindsAfter text count at (fault.ManyTokens i)) (sym h.0) (by_cause h.2)
  where
    by_cause : ((n : ℕ) × (k : TokenKind) × (n ≤ length text) × IsLongest text n k) ⊎ IsNoConstant text at (fault.BadNumber at) → FindsAfter text count at (fault.ManyTokens at)
    by_cause (inl c) = many_finds count at c.0 text c.1 h.1 c.2 c.3
    by_cause (inr c) = many_numbers count at text h.1 c
fault_found text count at (fault.LongSource offset) h = absurd h
fault_found text count at fault.NoMemory h = absurd h
