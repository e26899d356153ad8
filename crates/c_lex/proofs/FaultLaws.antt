-- Each fault of the definition is what its name says.
use Rattle.std.proofs.Common.{◌≡◌, ◌⊎◌, ℕ, zero, suc, ◌+◌, ◌<◌, ◌≤◌, Bool, true, false, cond, not, eqb, ltb, ◌&&◌, ◌||◌, List, [], ◌∷◌, ◌++◌, length, take, drop, Option, Some, None, Result, Ok, Err, codes, refl, sym, ap, ◌∙◌, subst, arith, inl, inr}
use Rattle.std.specs.Prelude.{nat_eq}
use Rattle.std.specs.Option.{ok_or, option_and_then}
use Rattle.std.specs.List.{starts_with, prefix_len}
use Rattle.std.proofs.lemmas.Bool.{ltb-true, ltb-false, eqb-false, eqb-true}
use Rattle.std.proofs.lemmas.List.{length-take-le, take-append-drop, drop_all}
use Rattle.std.proofs.lemmas.List.Sums.{prefix_len-le-length}
use Rattle.base.specs.Limits.{most_name_bytes, most_tokens}
use Rattle.c_lex.specs.Results.{◌>>=◌}
use Rattle.c_lex.specs.Classes.{is_letter, is_digit, is_name_byte, is_number_byte, is_line_end, is_inner_blank}
use Rattle.c_lex.specs.Digits.{is_digit_in, digits_value}
use Rattle.c_lex.specs.Keywords.{keyword_of}
use Rattle.c_lex.specs.Punctuators.{punct_at, punct_spelling}
use Rattle.c_lex.specs.Numbers.{number_at, constant_at, digits_at, typed, suffix}
use Rattle.c_lex.specs.Quoted.{closing_from, characters, only, char_at, string_at}
use Rattle.c_lex.specs.Trivia.{comment_at, comment_end, line_comment}
use Rattle.c_lex.specs.Lexemes.{lexeme_at, lexeme_of, start_of, identifier_at, identifier_kind_of, slash_at, punct_lexeme}
use Rattle.c_lex.specs.Tokens.{counted}
use Rattle.c_lex.specs.Grammar.{IsQuoted, IsToken}
use Rattle.c_lex.specs.Faults.{IsLongest, IsLongestNumber, IsLongestIdentifier, IsEnclosed, IsFault}
use Rattle.c_lex.specs.declared.fault.LexFault.{LexFault}
use Rattle.c_lex.specs.declared.fault.LexFault.TheVariants as fault
use Rattle.c_lex.specs.declared.lexeme.Lexeme.{Lexeme}
use Rattle.c_lex.specs.declared.lexeme.Lexeme.TheVariants as lexeme
use Rattle.c_lex.specs.declared.lexeme.Start.{Start}
use Rattle.c_lex.specs.declared.lexeme.Start.TheVariants as start
use Rattle.c_lex.specs.declared.punct.Punct.{Punct}
use Rattle.c_lex.specs.declared.token.TokenKind.{TokenKind}
use Rattle.c_lex.specs.declared.token.TokenKind.TheVariants as kind
use Rattle.c_lex.proofs.Lengths.{closing_within, ok_or_ok, chosen, lexeme_fits, punct_some, start_by, start_letter, start_digit}
use Rattle.c_lex.proofs.Tables.{is_mark, punct_none}
use Rattle.c_lex.proofs.Sorts.{token_mark, closed_found}
use Rattle.c_lex.proofs.Munch.{identifier_longest_by, identifier_is, number_longest_by, number_is, quoted_is, quoted_bytes, start_quote, start_double, lexeme_longest}

abbrev refused : LexFault → Result Lexeme LexFault
refused f = Err f

abbrev wrong : LexFault → Result TokenKind LexFault
wrong f = Err f

abbrev failed : (B : Type 0) → LexFault → Result B LexFault
failed B f = Err f

-- ---- steps that failed

err_same : (B : Type 0) (d e : LexFault) → failed B d ≡ failed B e → d ≡ e
err_same B d e h = cc

bind_err : {A B : Type 0} (r : Result A LexFault) (f : A → Result B LexFault) (e : LexFault) → (r >>= f) ≡ Err e → (r ≡ Err e) ⊎ ((x : A) × (r ≡ Ok x) × (f x ≡ Err e))
bind_err (Ok x) f e h = inr (x, refl, h)
bind_err {A} {B} (Err d) f e h = inl (ap (failed A) (err_same B d e h))

ok_or_err : {A : Type 0} (o : Option A) (d e : LexFault) → ok_or o d ≡ Err e → (o ≡ None) × (d ≡ e)
ok_or_err {A} None d e h = (refl, err_same A d e h)
ok_or_err (Some y) d e h = absurd cc

-- ---- numbers

typed_err : (base at value : ℕ) (unsigned : Bool) (f : LexFault) → typed base at value unsigned ≡ Err f → fault.TooWide at ≡ f
typed_err base at value unsigned f e =
    elim (chosen (ltb 4294967295 value || (eqb base 10 && not unsigned && ltb 2147483647 value)) (Err (fault.TooWide at)) (Ok (kind.Number value (unsigned || ltb 2147483647 value))) (Err f) e) [
      | inl (_, g) ↦ err_same TokenKind (fault.TooWide at) f g
      | inr (_, g) ↦ absurd cc
    ]

abbrev IsNumberFault : ℕ → LexFault → Type 0
IsNumberFault at f = (fault.TooWide at ≡ f) ⊎ (fault.BadNumber at ≡ f)

digits_err : (base at : ℕ) (text : List ℕ) (f : LexFault) → digits_at base at text ≡ Err f → IsNumberFault at f
unfolding digits_at
digits_err base at text f e =
    let n = prefix_len (is_digit_in base) text in
    let value = digits_value base (take n text) in
    elim (chosen (eqb n 0) (Err (fault.BadNumber at)) (ok_or (suffix (drop n text)) (fault.BadNumber at) >>= λ u. typed base at value u) (Err f) e) [
      | inl (_, g) ↦ inr (err_same TokenKind (fault.BadNumber at) f g)
      | inr (_, g) ↦ elim (bind_err (ok_or (suffix (drop n text)) (fault.BadNumber at)) (λ u. typed base at value u) f g) [
        | inl h ↦ inr (ok_or_err (suffix (drop n text)) (fault.BadNumber at) f h).1
        | inr h ↦ inl (typed_err base at value h.0 f h.2)
      ]
    ]

constant_err : (at : ℕ) (run : List ℕ) (f : LexFault) → constant_at at run ≡ Err f → IsNumberFault at f
unfolding constant_at
constant_err at run f e =
    let hex = starts_with nat_eq run (codes "0x") || starts_with nat_eq run (codes "0X") in
    let octal = starts_with nat_eq run (codes "0") in
    elim (chosen hex (digits_at 16 at (drop 2 run)) (cond octal (digits_at 8 at run) (digits_at 10 at run)) (Err f) e) [
      | inl (_, g) ↦ digits_err 16 at (drop 2 run) f g
      | inr (_, g) ↦ elim (chosen octal (digits_at 8 at run) (digits_at 10 at run) (Err f) g) [
        | inl (_, h) ↦ digits_err 8 at run f h
        | inr (_, h) ↦ digits_err 10 at run f h
      ]
    ]

number_fault_by : (at n : ℕ) (text : List ℕ) (f : LexFault) → IsLongestNumber text n → constant_at at (take n text) ≡ Err f → IsNumberFault at f → IsFault text 0 at f
number_fault_by at n text f is e (inl same) =
    subst (λ (g : LexFault). IsFault text 0 at g) same (refl, (n, is, e ∙ ap wrong (sym same)))
number_fault_by at n text f is e (inr same) =
    subst (λ (g : LexFault). IsFault text 0 at g) same (refl, omega arith, (n, is, e ∙ ap wrong (sym same)))

number_fault : (at b : ℕ) (bs : List ℕ) (f : LexFault) → is_digit b ≡ true → number_at at (b ∷ bs) ≡ Err f → IsFault (b ∷ bs) 0 at f
unfolding number_at
number_fault at b bs f digit e =
    let text = b ∷ bs in
    let n = prefix_len is_number_byte text in
    let is : IsLongestNumber text n = record { within = prefix_len-le-length is_number_byte text; number = number_is b bs digit; longest = λ m. number_longest_by b bs m digit } in
    elim (bind_err (constant_at at (take n text)) (λ k. Ok (lexeme.Token k n)) f e) [
      | inl h ↦ number_fault_by at n text f is h (constant_err at (take n text) f h)
      | inr h ↦ absurd (no_fault h.0 n h.2)
    ]
  where
    no_fault : (k : TokenKind) (n : ℕ) → Ok (lexeme.Token k n) ≡ refused f → ⊥
    no_fault k n h = cc

-- ---- names

identifier_fault : (at b : ℕ) (bs : List ℕ) (f : LexFault) → is_letter b ≡ true → identifier_at at (b ∷ bs) ≡ Err f → IsFault (b ∷ bs) 0 at f
unfolding identifier_at
identifier_fault at b bs f letter e =
    let text = b ∷ bs in
    let n = prefix_len is_name_byte text in
    elim (chosen (ltb most_name_bytes n) (Err (fault.LongName at)) (Ok (lexeme.Token (identifier_kind_of (take n text) (keyword_of (take n text))) n)) (Err f) e) [
      | inl (long, g) ↦
          let is : IsLongestIdentifier text n = record {
            within = prefix_len-le-length is_name_byte text;
            identifier = identifier_is b bs letter;
            longest =
                λ m. identifier_longest_by b bs m letter;
          } in
          subst (λ (h : LexFault). IsFault text 0 at h) (err_same Lexeme (fault.LongName at) f g) (refl, (n, ltb-true most_name_bytes n long, is))
      | inr (_, g) ↦ absurd cc
    ]

-- ---- between quotes

open_by : (quote b : ℕ) (bs : List ℕ) (n : ℕ) → (quote ≡ 10 → ⊥) → (quote ≡ 92 → ⊥) → closing_from quote false 0 bs ≡ None → n ≤ length (b ∷ bs) → IsQuoted quote (take n (b ∷ bs)) → ⊥
open_by quote b bs zero q10 q92 is within h = h
open_by quote b bs (suc zero) q10 q92 is within h = h.1
open_by quote b bs (suc (suc j)) q10 q92 is within h =
    let fits : suc j ≤ length bs = omega arith in
    let size : length (take (suc j) bs) ≡ suc j = length-take-le (suc j) bs fits in
    let there = closed_found quote 0 j (take (suc j) bs) (drop (suc j) bs) q10 q92 size h.1 in
    let same = ap (closing_from quote false 0) (take-append-drop (suc j) bs) in
    some_none (0 + j) (sym is ∙ sym same ∙ there)
  where
    some_none : (i : ℕ) → None ≡ Some i → ⊥
    some_none i e = cc

enclosed_is : (quote b m : ℕ) (bs : List ℕ) → b ≡ quote → closing_from quote false 0 bs ≡ Some m → IsEnclosed quote (b ∷ bs) (take m bs)
enclosed_is quote b m bs same is =
    let before = closing_within quote false 0 bs m is in
    let size : m + 2 ≡ length (take m bs) + 2 = omega (arith, length-take-le m bs (omega (arith, before.1))) in
    let P : ℕ → Type 0 = λ n. (n ≤ length (b ∷ bs)) × IsQuoted quote (take n (b ∷ bs)) × (take n (b ∷ bs) ≡ quote ∷ (take m bs ++ quote ∷ [])) in
    subst P size (omega (arith, before.1), quoted_is quote b m bs same is, quoted_bytes quote b m bs same is)

char_fault : (at b : ℕ) (bs : List ℕ) (f : LexFault) → b ≡ 39 → char_at at bs ≡ Err f → IsFault (b ∷ bs) 0 at f
unfolding char_at
char_fault at b bs f quote e =
    let text = b ∷ bs in
    elim (bind_err (ok_or (closing_from 39 false 0 bs) (fault.OpenText at)) (λ m. ok_or (option_and_then only (characters 0 (take m bs))) (fault.BadText at) >>= λ c. Ok (lexeme.Token
    (kind.Char c) (m + 2))) f e) [
      | inl h ↦
          let opened = ok_or_err (closing_from 39 false 0 bs) (fault.OpenText at) f h in
          subst (λ (g : LexFault). IsFault text 0 at g) opened.1 (refl, inl (quote, λ n. open_by 39 b bs n (λ q. omega arith) (λ q. omega arith) opened.0))
      | inr h ↦ bad_char h.0 (ok_or_ok (closing_from 39 false 0 bs) (fault.OpenText at) h.0 h.1) (bind_err (ok_or (option_and_then only (characters 0 (take h.0 bs))) (fault.BadText at)) (λ c. Ok
          (lexeme.Token (kind.Char c) (h.0 + 2))) f h.2)
    ]
  where
    not_one : (o : Option (List ℕ)) (c : ℕ) → option_and_then only o ≡ None → o ≡ Some (c ∷ []) → ⊥
    not_one o c none one = let e = sym none ∙ ap (option_and_then only) one in cc

    no_fault : (c n : ℕ) → Ok (lexeme.Token (kind.Char c) n) ≡ refused f → ⊥
    no_fault c n h = cc

    bad_char : (m : ℕ) → closing_from 39 false 0 bs ≡ Some m →
        (ok_or (option_and_then only (characters 0 (take m bs))) (fault.BadText at) ≡ Err f) ⊎ ((c : ℕ) × (ok_or (option_and_then only (characters 0 (take m bs))) (fault.BadText at) ≡ Ok c)
        × (Ok (lexeme.Token (kind.Char c) (m + 2)) ≡ refused f)) → IsFault (b ∷ bs) 0 at f
    bad_char m is (inl h) =
        let bad = ok_or_err (option_and_then only (characters 0 (take m bs))) (fault.BadText at) f h in
        subst (λ (g : LexFault). IsFault (b ∷ bs) 0 at g) bad.1 (refl, (take m bs, inl (enclosed_is 39 b m bs quote is, λ c. not_one (characters 0 (take m bs)) c bad.0)))
    bad_char m is (inr h) = absurd (no_fault h.0 (m + 2) h.2)

string_fault : (at b : ℕ) (bs : List ℕ) (f : LexFault) → b ≡ 34 → string_at at bs ≡ Err f → IsFault (b ∷ bs) 0 at f
unfolding string_at
string_fault at b bs f quote e =
    let text = b ∷ bs in
    elim (bind_err (ok_or (closing_from 34 false 0 bs) (fault.OpenText at)) (λ m. ok_or (characters 0 (take m bs)) (fault.BadText at) >>= λ c. Ok (lexeme.Token (kind.Text c) (m + 2))) f e) [
      | inl h ↦
          let opened = ok_or_err (closing_from 34 false 0 bs) (fault.OpenText at) f h in
          subst (λ (g : LexFault). IsFault text 0 at g) opened.1 (refl, inr (quote, λ n. open_by 34 b bs n (λ q. omega arith) (λ q. omega arith) opened.0))
      | inr h ↦ bad_string h.0 (ok_or_ok (closing_from 34 false 0 bs) (fault.OpenText at) h.0 h.1) (bind_err (ok_or (characters 0 (take h.0 bs)) (fault.BadText at)) (λ c. Ok (lexeme.Token
          (kind.Text c) (h.0 + 2))) f h.2)
    ]
  where
    no_fault : (c : List ℕ) (n : ℕ) → Ok (lexeme.Token (kind.Text c) n) ≡ refused f → ⊥
    no_fault c n h = cc

    bad_string : (m : ℕ) → closing_from 34 false 0 bs ≡ Some m →
        (ok_or (characters 0 (take m bs)) (fault.BadText at) ≡ Err f) ⊎ ((c : List ℕ) × (ok_or (characters 0 (take m bs)) (fault.BadText at) ≡ Ok c)
        × (Ok (lexeme.Token (kind.Text c) (m + 2)) ≡ refused f)) → IsFault (b ∷ bs) 0 at f
    bad_string m is (inl h) =
        let bad = ok_or_err (characters 0 (take m bs)) (fault.BadText at) f h in
        subst (λ (g : LexFault). IsFault (b ∷ bs) 0 at g) bad.1 (refl, (take m bs, inr (enclosed_is 34 b m bs quote is, bad.0)))
    bad_string m is (inr h) = absurd (no_fault h.0 (m + 2) h.2)

-- ---- comments

comment_never : (at : ℕ) (text : List ℕ) (n : ℕ) → comment_end at text ≡ None → starts_with nat_eq (drop n text) (codes "*/") ≡ false
comment_never at [] n e = ap (λ (t : List ℕ). starts_with nat_eq t (codes "*/")) (drop_all n [] (omega arith))
comment_never at (b ∷ bs) zero e =
    elim (chosen (starts_with nat_eq (b ∷ bs) (codes "*/")) (Some (at + 2)) (comment_end (at + 1) bs) None e) [
      | inl (_, f) ↦ absurd cc
      | inr (fails, _) ↦ fails
    ]
comment_never at (b ∷ bs) (suc n) e =
    elim (chosen (starts_with nat_eq (b ∷ bs) (codes "*/")) (Some (at + 2)) (comment_end (at + 1) bs) None e) [
      | inl (_, f) ↦ absurd cc
      | inr (_, f) ↦ comment_never (at + 1) bs n f
    ]

-- ---- bytes that begin nothing

pub no_empty : IsToken [] → ⊥
no_empty (inl w) = w
no_empty (inr (inl n)) = n
no_empty (inr (inr (inl q))) = q
no_empty (inr (inr (inr (inl q)))) = q
no_empty (inr (inr (inr (inr p)))) = omega (arith, punct_some p.0, ap length p.1)

mark_no_token : (b : ℕ) (bs : List ℕ) (n : ℕ) → is_mark b ≡ true → punct_at (b ∷ bs) ≡ None → n ≤ length (b ∷ bs) → IsToken (take n (b ∷ bs)) → ⊥
mark_no_token b bs zero m none within token = no_empty token
mark_no_token b bs (suc n) m none within token =
    let q = token_mark b (take n bs) m token in
    let size : length (punct_spelling q.0) ≡ suc n = ap length q.1 ∙ length-take-le (suc n) (b ∷ bs) within in
    punct_none (b ∷ bs) q.0 none (ap (λ j. take j (b ∷ bs)) size ∙ sym q.1)

-- the first byte is of none of the other sorts
record IsPlain (b : ℕ) : Type 0 where
  line : is_line_end b ≡ false
  blank : is_inner_blank b ≡ false
  mark : is_mark b ≡ true
  quote : b ≡ 39 → ⊥
  double : b ≡ 34 → ⊥
  hash : b ≡ 35 → ⊥

byte_fault : (at b : ℕ) (bs : List ℕ) (f : LexFault) (o : Option Punct) → IsPlain b → punct_at (b ∷ bs) ≡ o → punct_lexeme at o ≡ Err f → IsFault (b ∷ bs) 0 at f
byte_fault at b bs f None plain none e =
    subst (λ (g : LexFault). IsFault (b ∷ bs) 0 at g) (err_same Lexeme (fault.BadByte at) f e) (
      refl,
      record {
        some = omega arith;
        no_token = λ n. mark_no_token b bs n plain.mark none;
        no_line_end = plain.line;
        no_blank = plain.blank;
        no_quote = plain.quote;
        no_double_quote = plain.double;
        no_hash = plain.hash;
      },
    )
byte_fault at b bs f (Some p) plain is e = absurd cc

-- ---- what a first byte begins

hash_by : (line blank letter digit quote double hash slash : Bool) → start_by line blank letter digit quote double hash slash ≡ start.Hash → hash ≡ true
unfolding start_by
hash_by true _ _ _ _ _ _ _ e = absurd cc
hash_by false true _ _ _ _ _ _ e = absurd cc
hash_by false false true _ _ _ _ _ e = absurd cc
hash_by false false false true _ _ _ _ e = absurd cc
hash_by false false false false true _ _ _ e = absurd cc
hash_by false false false false false true _ _ e = absurd cc
hash_by false false false false false false true _ e = refl
hash_by false false false false false false false true e = absurd cc
hash_by false false false false false false false false e = absurd cc

slash_by : (line blank letter digit quote double hash slash : Bool) → start_by line blank letter digit quote double hash slash ≡ start.Slash → slash ≡ true
unfolding start_by
slash_by true _ _ _ _ _ _ _ e = absurd cc
slash_by false true _ _ _ _ _ _ e = absurd cc
slash_by false false true _ _ _ _ _ e = absurd cc
slash_by false false false true _ _ _ _ e = absurd cc
slash_by false false false false true _ _ _ e = absurd cc
slash_by false false false false false true _ _ e = absurd cc
slash_by false false false false false false true _ e = absurd cc
slash_by false false false false false false false true e = refl
slash_by false false false false false false false false e = absurd cc

other_by : (line blank letter digit quote double hash slash : Bool) → start_by line blank letter digit quote double hash slash ≡ start.Other →
    (line ≡ false) × (blank ≡ false) × (letter ≡ false) × (digit ≡ false) × (quote ≡ false) × (double ≡ false) × (hash ≡ false)
unfolding start_by
other_by true _ _ _ _ _ _ _ e = absurd cc
other_by false true _ _ _ _ _ _ e = absurd cc
other_by false false true _ _ _ _ _ e = absurd cc
other_by false false false true _ _ _ _ e = absurd cc
other_by false false false false true _ _ _ e = absurd cc
other_by false false false false false true _ _ e = absurd cc
other_by false false false false false false true _ e = absurd cc
other_by false false false false false false false true e = absurd cc
other_by false false false false false false false false e = (refl, refl, refl, refl, refl, refl, refl)

start_hash : (b : ℕ) → start_of b ≡ start.Hash → b ≡ 35
unfolding start_of start_by
start_hash b e = eqb-true b 35 (hash_by (is_line_end b) (is_inner_blank b) (is_letter b) (is_digit b) (eqb b 39) (eqb b 34) (eqb b 35) (eqb b 47) e)

start_slash : (b : ℕ) → start_of b ≡ start.Slash → b ≡ 47
unfolding start_of start_by
start_slash b e = eqb-true b 47 (slash_by (is_line_end b) (is_inner_blank b) (is_letter b) (is_digit b) (eqb b 39) (eqb b 34) (eqb b 35) (eqb b 47) e)

all_false : (x y z w : Bool) → x ≡ false → y ≡ false → z ≡ false → w ≡ false → (not x && (not y && (not z && not w))) ≡ true
all_false false false false false _ _ _ _ = refl
all_false true _ _ _ e _ _ _ = absurd cc
all_false false true _ _ _ e _ _ = absurd cc
all_false false false true _ _ _ e _ = absurd cc
all_false false false false true _ _ _ e = absurd cc

start_other : (b : ℕ) → start_of b ≡ start.Other → IsPlain b
unfolding start_of start_by
start_other b e =
    let no = other_by (is_line_end b) (is_inner_blank b) (is_letter b) (is_digit b) (eqb b 39) (eqb b 34) (eqb b 35) (eqb b 47) e in
    record {
      line = no.0;
      blank = no.1;
      mark = all_false (is_letter b) (is_digit b) (eqb b 39) (eqb b 34) no.2 no.3 no.4 no.5;
      quote = eqb-false b 39 no.4;
      double = eqb-false b 34 no.5;
      hash = eqb-false b 35 no.6;
    }

slash_plain : (b : ℕ) → b ≡ 47 → IsPlain b
slash_plain b e = record {
  line = ap is_line_end e;
  blank = ap is_inner_blank e;
  mark = ap is_mark e;
  quote = λ q. omega (arith, e, q);
  double = λ q. omega (arith, e, q);
  hash = λ q. omega (arith, e, q);
}

-- ---- every lexeme

slash_fault : (at b : ℕ) (bs : List ℕ) (f : LexFault) → b ≡ 47 → slash_at at (b ∷ bs) ≡ Err f → IsFault (b ∷ bs) 0 at f
unfolding slash_at comment_at
slash_fault at b bs f slash e =
    let text = b ∷ bs in
    elim (chosen (starts_with nat_eq text (codes "/*")) (comment_at at (drop 2 text)) (cond (starts_with nat_eq text (codes "//")) (Ok (line_comment (drop 2 text))) (punct_lexeme at
    (punct_at text))) (Err f) e) [
      | inl (starts, g) ↦ elim (bind_err (ok_or (comment_end 0 (drop 2 text)) (fault.OpenComment at)) (λ m. Ok (lexeme.Trivia (m + 2))) f g) [
        | inl h ↦
            let opened = ok_or_err (comment_end 0 (drop 2 text)) (fault.OpenComment at) f h in
            subst (λ (g : LexFault). IsFault text 0 at g) opened.1 (refl, starts, λ n. comment_never 0 (drop 2 text) n opened.0)
        | inr h ↦ absurd (no_trivia (h.0 + 2) h.2)
      ]
      | inr (_, g) ↦ elim (chosen (starts_with nat_eq text (codes "//")) (Ok (line_comment (drop 2 text))) (punct_lexeme at (punct_at text)) (Err f) g) [
        | inl (_, h) ↦ absurd cc
        | inr (_, h) ↦ byte_fault at b bs f (punct_at text) (slash_plain b slash) refl h
      ]
    ]
  where
    no_trivia : (n : ℕ) → Ok (lexeme.Trivia n) ≡ refused f → ⊥
    no_trivia n h = cc

lexeme_fault_of : (s : Start) (at b : ℕ) (bs : List ℕ) (f : LexFault) → start_of b ≡ s → lexeme_of s at (b ∷ bs) ≡ Err f → IsFault (b ∷ bs) 0 at f
unfolding lexeme_of
lexeme_fault_of start.LineEnd at b bs f is e = absurd cc
lexeme_fault_of start.Blank at b bs f is e = absurd cc
lexeme_fault_of start.Letter at b bs f is e = identifier_fault at b bs f (start_letter b is) e
lexeme_fault_of start.Digit at b bs f is e = number_fault at b bs f (start_digit b is) e
lexeme_fault_of start.Quote at b bs f is e = char_fault at b bs f (start_quote b is) e
lexeme_fault_of start.DoubleQuote at b bs f is e = string_fault at b bs f (start_double b is) e
lexeme_fault_of start.Hash at b bs f is e = subst (λ (g : LexFault). IsFault (b ∷ bs) 0 at g) (err_same Lexeme (fault.Directive at) f e) (refl, start_hash b is)
lexeme_fault_of start.Slash at b bs f is e = slash_fault at b bs f (start_slash b is) e
lexeme_fault_of start.Other at b bs f is e = byte_fault at b bs f (punct_at (b ∷ bs)) (start_other b is) refl e

lexeme_fault : (at : ℕ) (text : List ℕ) (f : LexFault) → 0 < length text → lexeme_at at text ≡ Err f → IsFault text 0 at f
lexeme_fault at [] f some e = absurd (omega arith)
lexeme_fault at (b ∷ bs) f some e = lexeme_fault_of (start_of b) at b bs f refl e

-- ---- with the count

counted_by : (count at : ℕ) (text : List ℕ) (r : Result Lexeme LexFault) (f : LexFault) → ((g : LexFault) → r ≡ Err g → IsFault text 0 at g) → ((k : TokenKind) (n : ℕ) →
    r ≡ Ok (lexeme.Token k n) → (n ≤ length text) × IsLongest text n k) → counted count at r ≡ Err f → IsFault text count at f
counted_by count at text (Ok (lexeme.Trivia n)) f faulty longest e = absurd cc
counted_by count at text (Ok (lexeme.Token k n)) f faulty longest e =
    elim (chosen (ltb count most_tokens) (Ok (lexeme.Token k n)) (Err (fault.ManyTokens at)) (Err f) e) [
      | inl (_, g) ↦ absurd cc
      | inr (many, g) ↦ subst (λ (h : LexFault). IsFault text count at h) (err_same Lexeme (fault.ManyTokens at) f g) (
        refl,
        ltb-false count most_tokens many,
        inl (
          n,
          k,
          (longest k n refl).0,
          (longest k n refl).1,
        ),
      )
    ]
counted_by count at text (Err (fault.BadNumber p)) f faulty longest e =
    let is = faulty (fault.BadNumber p) refl in
    elim (chosen (ltb count most_tokens) (Err (fault.BadNumber p)) (Err (fault.ManyTokens at)) (Err f) e) [
      | inl (few, g) ↦ subst (λ (h : LexFault). IsFault text count at h) (err_same Lexeme (fault.BadNumber p) f g) (is.0, ltb-true count most_tokens few, is.2)
      | inr (many, g) ↦ subst (λ (h : LexFault). IsFault text count at h) (err_same Lexeme (fault.ManyTokens at) f g) (refl, ltb-false count most_tokens many, inr is.2)
    ]
counted_by count at text (Err fault.NoMemory) f faulty longest e = absurd (faulty fault.NoMemory refl)
counted_by count at text (Err (fault.LongSource p)) f faulty longest e = absurd (faulty (fault.LongSource p) refl)
counted_by count at text (Err (fault.ManyTokens p)) f faulty longest e = let is = faulty (fault.ManyTokens p) refl in absurd (omega (arith, is.1))
counted_by count at text (Err (fault.BadByte p)) f faulty longest e = subst (λ (h : LexFault). IsFault text count at h) (err_same Lexeme (fault.BadByte p) f e) (faulty (fault.BadByte p) refl)
counted_by count at text (Err (fault.OpenComment p)) f faulty longest e =
    subst (λ (h : LexFault). IsFault text count at h) (err_same Lexeme (fault.OpenComment p) f e) (faulty (fault.OpenComment p) refl)
counted_by count at text (Err (fault.OpenText p)) f faulty longest e = subst (λ (h : LexFault). IsFault text count at h) (err_same Lexeme (fault.OpenText p) f e) (faulty (fault.OpenText p) refl)
counted_by count at text (Err (fault.BadText p)) f faulty longest e = subst (λ (h : LexFault). IsFault text count at h) (err_same Lexeme (fault.BadText p) f e) (faulty (fault.BadText p) refl)
counted_by count at text (Err (fault.TooWide p)) f faulty longest e = subst (λ (h : LexFault). IsFault text count at h) (err_same Lexeme (fault.TooWide p) f e) (faulty (fault.TooWide p) refl)
counted_by count at text (Err (fault.LongName p)) f faulty longest e = subst (λ (h : LexFault). IsFault text count at h) (err_same Lexeme (fault.LongName p) f e) (faulty (fault.LongName p) refl)
counted_by count at text (Err (fault.Directive p)) f faulty longest e = subst (λ (h : LexFault). IsFault text count at h) (err_same Lexeme (fault.Directive p) f e) (faulty (fault.Directive p) refl)

pub counted_fault : (count at : ℕ) (text : List ℕ) (f : LexFault) → 0 < length text → counted count at (lexeme_at at text) ≡ Err f → IsFault text count at f
counted_fault count at text f some e =
    counted_by count at text (lexeme_at at text) f (λ g h. lexeme_fault at text g some h) (λ k n h. ((lexeme_fits at text (lexeme.Token k n) some h).1, lexeme_longest at text n k some h)) e
