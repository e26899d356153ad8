-- Each token of the definition is the longest run from its start that is a token.
use Rattle.std.proofs.Common.{◌≡◌, ℕ, zero, suc, ◌+◌, ◌<◌, ◌≤◌, Bool, true, false, cond, not, eqb, ltb, ◌&&◌, ◌||◌, List, [], ◌∷◌, ◌++◌, length, take, drop, Option, Some, None, Ok, Err, codes, refl, sym, ap, ◌∙◌, subst, arith, inl, inr}
use Rattle.std.specs.Prelude.{nat_eq}
use Rattle.std.specs.Option.{ok_or, option_and_then}
use Rattle.std.specs.List.{prefix_len, position_or_len, starts_with}
use Rattle.std.proofs.lemmas.Bool.{ltb-false, eqb-true}
use Rattle.std.proofs.lemmas.Bool.Decides.{nat_tests}
use Rattle.std.proofs.lemmas.List.{length-take, length-take-le, take-append-drop}
use Rattle.base.specs.Limits.{most_name_bytes}
use Rattle.c_lex.specs.Results.{◌>>=◌}
use Rattle.c_lex.specs.Classes.{is_letter, is_digit, is_name_byte, is_number_byte, is_line_end, is_inner_blank}
use Rattle.c_lex.specs.Keywords.{keyword_of}
use Rattle.c_lex.specs.Punctuators.{punct_at, punct_spelling}
use Rattle.c_lex.specs.Numbers.{number_at, constant_at, digits_at, typed, suffix}
use Rattle.c_lex.specs.Digits.{is_digit_in, digits_value}
use Rattle.c_lex.specs.Quoted.{closing_from, characters, only, char_at, string_at}
use Rattle.c_lex.specs.Lexemes.{lexeme_at, lexeme_of, start_of, identifier_at, identifier_kind_of, slash_at, punct_lexeme}
use Rattle.c_lex.specs.Trivia.{comment_at, comment_end, line_comment}
use Rattle.c_lex.specs.Faults.{IsLongest}
use Rattle.c_lex.specs.Grammar.{IsIdentifier, IsNumber, IsClosed, IsQuoted, IsToken, Spells, begins_comment}
use Rattle.c_lex.specs.declared.fault.LexFault.TheVariants as fault
use Rattle.c_lex.specs.declared.lexeme.Lexeme.TheVariants as lexeme
use Rattle.c_lex.specs.declared.lexeme.Start.{Start}
use Rattle.c_lex.specs.declared.lexeme.Start.TheVariants as start
use Rattle.c_lex.specs.declared.keyword.Keyword.{Keyword}
use Rattle.c_lex.specs.declared.punct.Punct.{Punct}
use Rattle.c_lex.specs.declared.token.TokenKind.{TokenKind}
use Rattle.c_lex.specs.declared.token.TokenKind.TheVariants as kind
use Rattle.c_lex.proofs.Lengths.{bind_ok, ok_or_ok, chosen, found, start_letter, start_digit, letter_is_name_byte, digit_goes_on, punct_some, start_by}
use Rattle.c_lex.proofs.Tables.{is_mark, keyword_is, keyword_none, punct_begins, punct_longest, punct_first}
use Rattle.c_lex.proofs.Sorts.{token_identifier, token_number, token_quoted, token_double, token_mark, run_all, run_most, run_first, closed_is, closed_found, closing_at}

-- ---- where no comment begins

pub no_slash : (b : ℕ) (bs : List ℕ) → (b ≡ 47 → ⊥) → begins_comment (b ∷ bs) ≡ false
no_slash b bs h = let e : eqb 47 b ≡ false = grind (arith, nat_tests) in rw e refl

letter_no_slash : (b : ℕ) → is_letter b ≡ true → b ≡ 47 → ⊥
letter_no_slash b m e = let f = ap is_letter (sym e) ∙ m in cc

digit_no_slash : (b : ℕ) → is_digit b ≡ true → b ≡ 47 → ⊥
digit_no_slash b m e = let f = ap is_digit (sym e) ∙ m in cc

token_is : (k l : TokenKind) (n m : ℕ) → found (lexeme.Token k n) ≡ found (lexeme.Token l m) → (k ≡ l) × (n ≡ m)
token_is k l n m e = (cc, cc)

longest_at : (text : List ℕ) (n m : ℕ) (k l : TokenKind) → IsLongest text n k → found (lexeme.Token k n) ≡ found (lexeme.Token l m) → IsLongest text m l
longest_at text n m k l h e =
    let same = token_is k l n m e in
    subst (λ (j : TokenKind). IsLongest text m j) same.0 (subst (λ (i : ℕ). IsLongest text i k) same.1 h)

-- ---- names and keywords

identifier_spells : (bytes : List ℕ) (o : Option Keyword) → keyword_of bytes ≡ o → IsIdentifier bytes → length bytes ≤ most_name_bytes → Spells bytes (identifier_kind_of bytes o)
identifier_spells bytes None is identifier short = (identifier, refl, short, λ k. keyword_none bytes k is)
identifier_spells bytes (Some k) is identifier short = keyword_is bytes k is

pub identifier_longest_by : (b : ℕ) (bs : List ℕ) (m : ℕ) → is_letter b ≡ true → prefix_len is_name_byte (b ∷ bs) < m → m ≤ length (b ∷ bs) → IsToken (take m (b ∷ bs)) → ⊥
identifier_longest_by b bs zero letter less within token = omega arith
identifier_longest_by b bs (suc m) letter less within token =
    let identifier = token_identifier b (take m bs) letter token in
    let most = run_most is_name_byte bs m (omega arith) identifier.1 in
    let size = run_first is_name_byte b bs (letter_is_name_byte b letter) in
    omega arith

pub identifier_is : (b : ℕ) (bs : List ℕ) → is_letter b ≡ true → IsIdentifier (take (prefix_len is_name_byte (b ∷ bs)) (b ∷ bs))
identifier_is b bs letter =
    let size = run_first is_name_byte b bs (letter_is_name_byte b letter) in
    subst (λ (n : ℕ). IsIdentifier (take n (b ∷ bs))) (sym size) (letter, run_all is_name_byte bs)

pub identifier_longest : (at b : ℕ) (bs : List ℕ) (n : ℕ) (k : TokenKind) → is_letter b ≡ true → identifier_at at (b ∷ bs) ≡ Ok (lexeme.Token k n) → IsLongest (b ∷ bs) n k
unfolding identifier_at
identifier_longest at b bs n k letter e =
    let text = b ∷ bs in
    let m = prefix_len is_name_byte text in
    let bytes = take m text in
    let identifier = identifier_is b bs letter in
    let j = identifier_kind_of bytes (keyword_of bytes) in
    elim (chosen (ltb most_name_bytes m) (Err (fault.LongName at)) (Ok (lexeme.Token j m)) (Ok (lexeme.Token k n)) e) [
      | inl (_, f) ↦ absurd cc
      | inr (short, f) ↦
          let size : m ≤ most_name_bytes = ltb-false most_name_bytes m short in
          longest_at text m n j k (record {
            no_comment = no_slash b bs (letter_no_slash b letter);
            token = inl identifier;
            spells = identifier_spells bytes (keyword_of bytes) refl identifier (omega (arith, length-take m text));
            longest = λ i. identifier_longest_by b bs i letter;
          }) f
    ]

-- ---- numbers

typed_number : (base at to value : ℕ) (unsigned : Bool) (k : TokenKind) → typed base at value unsigned ≡ Ok k →
    (v : ℕ) × (u : Bool) × (k ≡ kind.Number v u) × (typed base to value unsigned ≡ Ok (kind.Number v u))
typed_number base at to value unsigned k e =
    let wide = ltb 4294967295 value || (eqb base 10 && not unsigned && ltb 2147483647 value) in
    let made : TokenKind = kind.Number value (unsigned || ltb 2147483647 value) in
    elim (chosen wide (Err (fault.TooWide at)) (Ok made) (Ok k) e) [
      | inl (_, f) ↦ absurd cc
      | inr (fits, f) ↦ (value, unsigned || ltb 2147483647 value, cc, ap (λ b. cond b (Err (fault.TooWide to)) (Ok made)) fits)
    ]

digits_number : (base at to : ℕ) (text : List ℕ) (k : TokenKind) → digits_at base at text ≡ Ok k → (v : ℕ) × (u : Bool) × (k ≡ kind.Number v u) × (digits_at base to text ≡ Ok (kind.Number v u))
unfolding digits_at
digits_number base at to text k e =
    let n = prefix_len (is_digit_in base) text in
    let value = digits_value base (take n text) in
    elim (chosen (eqb n 0) (Err (fault.BadNumber at)) (ok_or (suffix (drop n text)) (fault.BadNumber at) >>= λ u. typed base at value u) (Ok k) e) [
      | inl (_, f) ↦ absurd cc
      | inr (some, f) ↦
          let u = bind_ok (ok_or (suffix (drop n text)) (fault.BadNumber at)) (λ u. typed base at value u) k f in
          let is = ok_or_ok (suffix (drop n text)) (fault.BadNumber at) u.0 u.1 in
          let made = typed_number base at to value u.0 k u.2 in (
            made.0,
            made.1,
            made.2,
            ap (λ b. cond b (Err (fault.BadNumber to)) (ok_or (suffix (drop n text)) (fault.BadNumber to) >>= λ w. typed base to value w)) some
                ∙ ap (λ o. ok_or o (fault.BadNumber to) >>= λ w. typed base to value w) is ∙ made.3,
          )
    ]

pub constant_number : (at to : ℕ) (run : List ℕ) (k : TokenKind) → constant_at at run ≡ Ok k → (v : ℕ) × (u : Bool) × (k ≡ kind.Number v u) × (constant_at to run ≡ Ok (kind.Number v u))
unfolding constant_at
constant_number at to run k e =
    let hex = starts_with nat_eq run (codes "0x") || starts_with nat_eq run (codes "0X") in
    let octal = starts_with nat_eq run (codes "0") in
    elim (chosen hex (digits_at 16 at (drop 2 run)) (cond octal (digits_at 8 at run) (digits_at 10 at run)) (Ok k) e) [
      | inl (is, f) ↦
          let made = digits_number 16 at to (drop 2 run) k f in
          (made.0, made.1, made.2, ap (λ b. cond b (digits_at 16 to (drop 2 run)) (cond octal (digits_at 8 to run) (digits_at 10 to run))) is ∙ made.3)
      | inr (is, f) ↦ elim (chosen octal (digits_at 8 at run) (digits_at 10 at run) (Ok k) f) [
        | inl (zero_first, g) ↦
            let made = digits_number 8 at to run k g in (
              made.0,
              made.1,
              made.2,
              ap (λ b. cond b (digits_at 16 to (drop 2 run)) (cond octal (digits_at 8 to run) (digits_at 10 to run))) is
                  ∙ ap (λ b. cond b (digits_at 8 to run) (digits_at 10 to run)) zero_first ∙ made.3,
            )
        | inr (zero_first, g) ↦
            let made = digits_number 10 at to run k g in (
              made.0,
              made.1,
              made.2,
              ap (λ b. cond b (digits_at 16 to (drop 2 run)) (cond octal (digits_at 8 to run) (digits_at 10 to run))) is
                  ∙ ap (λ b. cond b (digits_at 8 to run) (digits_at 10 to run)) zero_first ∙ made.3,
            )
      ]
    ]

pub number_longest_by : (b : ℕ) (bs : List ℕ) (m : ℕ) → is_digit b ≡ true → prefix_len is_number_byte (b ∷ bs) < m → m ≤ length (b ∷ bs) → IsToken (take m (b ∷ bs)) → ⊥
number_longest_by b bs zero digit less within token = omega arith
number_longest_by b bs (suc m) digit less within token =
    let number = token_number b (take m bs) digit token in
    let most = run_most is_number_byte bs m (omega arith) number.1 in
    let size = run_first is_number_byte b bs (digit_goes_on b digit) in
    omega arith

pub number_is : (b : ℕ) (bs : List ℕ) → is_digit b ≡ true → IsNumber (take (prefix_len is_number_byte (b ∷ bs)) (b ∷ bs))
number_is b bs digit =
    let size = run_first is_number_byte b bs (digit_goes_on b digit) in
    subst (λ (n : ℕ). IsNumber (take n (b ∷ bs))) (sym size) (digit, run_all is_number_byte bs)

pub number_longest : (at b : ℕ) (bs : List ℕ) (n : ℕ) (k : TokenKind) → is_digit b ≡ true → number_at at (b ∷ bs) ≡ Ok (lexeme.Token k n) → IsLongest (b ∷ bs) n k
unfolding number_at
number_longest at b bs n k digit e =
    let text = b ∷ bs in
    let m = prefix_len is_number_byte text in
    let made = bind_ok (constant_at at (take m text)) (λ j. Ok (lexeme.Token j m)) (lexeme.Token k n) e in
    let number = constant_number at 0 (take m text) made.0 made.1 in
    let is = number_is b bs digit in
    longest_at text m n made.0 k (record {
      no_comment = no_slash b bs (digit_no_slash b digit);
      token = inr (inl is);
      spells = subst (λ (j : TokenKind). Spells (take m text) j) (sym number.2) (is, number.3);
      longest = λ i. number_longest_by b bs i digit;
    }) made.2

-- ---- between quotes

quoted_longest_by : (quote n : ℕ) (bs : List ℕ) (m : ℕ) → (quote ≡ 10 → ⊥) → (quote ≡ 92 → ⊥) → closing_from quote false 0 bs ≡ Some n → n + 2 < suc m → m ≤ length bs → IsClosed quote (take m bs) → ⊥
quoted_longest_by quote n bs zero q10 q92 is less within closed = closed
quoted_longest_by quote n bs (suc m) q10 q92 is less within closed =
    let size : length (take (suc m) bs) ≡ suc m = length-take-le (suc m) bs within in
    let there = closed_found quote 0 m (take (suc m) bs) (drop (suc m) bs) q10 q92 size closed in
    let whole = ap (closing_from quote false 0) (take-append-drop (suc m) bs) in
    let same : Some n ≡ Some (0 + m) = sym is ∙ sym whole ∙ there in
    let n_is : n ≡ 0 + m = cc in
    omega arith

pub quoted_is : (quote b m : ℕ) (bs : List ℕ) → b ≡ quote → closing_from quote false 0 bs ≡ Some m → IsQuoted quote (take (m + 2) (b ∷ bs))
quoted_is quote b m bs same is =
    let two : suc (suc m) ≡ m + 2 = omega arith in
    let offset : m ≡ 0 + m = omega arith in
    subst (λ (i : ℕ). IsQuoted quote (take i (b ∷ bs))) two (same, closed_is quote 0 m bs (is ∙ ap Some offset))

pub quoted_bytes : (quote b m : ℕ) (bs : List ℕ) → b ≡ quote → closing_from quote false 0 bs ≡ Some m → take (m + 2) (b ∷ bs) ≡ quote ∷ (take m bs ++ quote ∷ [])
quoted_bytes quote b m bs same is =
    let two : m + 2 ≡ suc (suc m) = omega arith in
    let offset : m ≡ 0 + m = omega arith in
    ap (λ i. take i (b ∷ bs)) two ∙ ap (λ (t : List ℕ). b ∷ t) (closing_at quote 0 m false bs (is ∙ ap Some offset)) ∙ ap (λ x. x ∷ (take m bs ++ quote ∷ [])) same

pub only_is : (o : Option (List ℕ)) (c : ℕ) → option_and_then only o ≡ Some c → o ≡ Some (c ∷ [])
only_is None c f = absurd cc
only_is (Some []) c f = absurd cc
only_is (Some (d ∷ [])) c f = let same : d ≡ c = cc in ap (λ x. Some (x ∷ [])) same
only_is (Some (d ∷ x ∷ xs)) c f = absurd cc

pub char_longest_by : (b m : ℕ) (bs : List ℕ) (i : ℕ) → b ≡ 39 → closing_from 39 false 0 bs ≡ Some m → m + 2 < i → i ≤ length (b ∷ bs) → IsToken (take i (b ∷ bs)) → ⊥
char_longest_by b m bs zero same is less within token = omega arith
char_longest_by b m bs (suc i) same is less within token = quoted_longest_by 39 m bs i (λ q. omega arith) (λ q. omega arith) is less (omega arith) (token_quoted b (take i bs) same token)

pub string_longest_by : (b m : ℕ) (bs : List ℕ) (i : ℕ) → b ≡ 34 → closing_from 34 false 0 bs ≡ Some m → m + 2 < i → i ≤ length (b ∷ bs) → IsToken (take i (b ∷ bs)) → ⊥
string_longest_by b m bs zero same is less within token = omega arith
string_longest_by b m bs (suc i) same is less within token = quoted_longest_by 34 m bs i (λ q. omega arith) (λ q. omega arith) is less (omega arith) (token_double b (take i bs) same token)

char_spells : (b m c : ℕ) (bs : List ℕ) → b ≡ 39 → closing_from 39 false 0 bs ≡ Some m → characters 0 (take m bs) ≡ Some (c ∷ []) → IsLongest (b ∷ bs) (m + 2) (kind.Char c)
char_spells b m c bs same is one = record {
  no_comment = no_slash b bs (λ e. omega (arith, e, same));
  token = inr (inr (inl (quoted_is 39 b m bs same is)));
  spells = (take m bs, quoted_bytes 39 b m bs same is, one);
  longest = λ i. char_longest_by b m bs i same is;
}

string_spells : (b m : ℕ) (cs bs : List ℕ) → b ≡ 34 → closing_from 34 false 0 bs ≡ Some m → characters 0 (take m bs) ≡ Some cs → IsLongest (b ∷ bs) (m + 2) (kind.Text cs)
string_spells b m cs bs same is all = record {
  no_comment = no_slash b bs (λ e. omega (arith, e, same));
  token = inr (inr (inr (inl (quoted_is 34 b m bs same is))));
  spells = (take m bs, quoted_bytes 34 b m bs same is, all);
  longest = λ i. string_longest_by b m bs i same is;
}

pub char_longest : (at b : ℕ) (bs : List ℕ) (n : ℕ) (k : TokenKind) → b ≡ 39 → char_at at bs ≡ Ok (lexeme.Token k n) → IsLongest (b ∷ bs) n k
unfolding char_at
char_longest at b bs n k quote e =
    let closed =
    bind_ok (ok_or (closing_from 39 false 0 bs) (fault.OpenText at)) (λ m. ok_or (option_and_then only (characters 0 (take m bs))) (fault.BadText at) >>= λ c. Ok (lexeme.Token (kind.Char c)
    (m + 2))) (lexeme.Token k n) e in
    let m = closed.0 in
    let is = ok_or_ok (closing_from 39 false 0 bs) (fault.OpenText at) m closed.1 in
    let made = bind_ok (ok_or (option_and_then only (characters 0 (take m bs))) (fault.BadText at)) (λ c. Ok (lexeme.Token (kind.Char c) (m + 2))) (lexeme.Token k n) closed.2 in
    let one = only_is (characters 0 (take m bs)) made.0 (ok_or_ok (option_and_then only (characters 0 (take m bs))) (fault.BadText at) made.0 made.1) in
    longest_at (b ∷ bs) (m + 2) n (kind.Char made.0) k (char_spells b m made.0 bs quote is one) made.2

pub string_longest : (at b : ℕ) (bs : List ℕ) (n : ℕ) (k : TokenKind) → b ≡ 34 → string_at at bs ≡ Ok (lexeme.Token k n) → IsLongest (b ∷ bs) n k
unfolding string_at
string_longest at b bs n k quote e =
    let closed =
    bind_ok (ok_or (closing_from 34 false 0 bs) (fault.OpenText at)) (λ m. ok_or (characters 0 (take m bs)) (fault.BadText at) >>= λ c. Ok (lexeme.Token (kind.Text c) (m + 2)))
    (lexeme.Token k n) e in
    let m = closed.0 in
    let is = ok_or_ok (closing_from 34 false 0 bs) (fault.OpenText at) m closed.1 in
    let made = bind_ok (ok_or (characters 0 (take m bs)) (fault.BadText at)) (λ c. Ok (lexeme.Token (kind.Text c) (m + 2))) (lexeme.Token k n) closed.2 in
    let all = ok_or_ok (characters 0 (take m bs)) (fault.BadText at) made.0 made.1 in
    longest_at (b ∷ bs) (m + 2) n (kind.Text made.0) k (string_spells b m made.0 bs quote is all) made.2

-- ---- punctuators

begins_with : (n b c : ℕ) (bs cs : List ℕ) → take n (b ∷ bs) ≡ c ∷ cs → b ≡ c
begins_with zero b c bs cs e = absurd cc
begins_with (suc n) b c bs cs e = cc

mark_by : (b : ℕ) (bs : List ℕ) (p : Punct) (n : ℕ) (t : List ℕ) → punct_spelling p ≡ t → take n (b ∷ bs) ≡ t → 0 < length t → is_mark b ≡ true
mark_by b bs p n [] same begins some = absurd (omega arith)
mark_by b bs p n (c ∷ cs) same begins some = ap is_mark (begins_with n b c bs cs begins) ∙ punct_first p c cs same

mark_of : (b : ℕ) (bs : List ℕ) (p : Punct) → punct_at (b ∷ bs) ≡ Some p → is_mark b ≡ true
mark_of b bs p is = mark_by b bs p (length (punct_spelling p)) (punct_spelling p) refl (punct_begins (b ∷ bs) p is) (punct_some p)

punct_longest_by : (b : ℕ) (bs : List ℕ) (p : Punct) (i : ℕ) → punct_at (b ∷ bs) ≡ Some p → length (punct_spelling p) < i → i ≤ length (b ∷ bs) → IsToken (take i (b ∷ bs)) → ⊥
punct_longest_by b bs p zero is less within token = omega arith
punct_longest_by b bs p (suc i) is less within token =
    let q = token_mark b (take i bs) (mark_of b bs p is) token in
    let size : length (punct_spelling q.0) ≡ suc i = ap length q.1 ∙ length-take-le (suc i) (b ∷ bs) within in
    let begins : take (length (punct_spelling q.0)) (b ∷ bs) ≡ punct_spelling q.0 = ap (λ j. take j (b ∷ bs)) size ∙ sym q.1 in
    omega (arith, punct_longest (b ∷ bs) p q.0 is begins)

punct_found : (at b : ℕ) (bs : List ℕ) (n : ℕ) (k : TokenKind) (o : Option Punct) → begins_comment (b ∷ bs) ≡ false → punct_at (b ∷ bs) ≡ o → punct_lexeme at o ≡ Ok (lexeme.Token k n) →
    IsLongest (b ∷ bs) n k
punct_found at b bs n k None no_comment is e = absurd cc
punct_found at b bs n k (Some p) no_comment is e =
    let begins = punct_begins (b ∷ bs) p is in
    longest_at (b ∷ bs) (length (punct_spelling p)) n (kind.Punct p) k (record {
      no_comment = no_comment;
      token = inr (inr (inr (inr (p, sym begins))));
      spells = sym begins;
      longest = λ i. punct_longest_by b bs p i is;
    }) e

pub punct_is_longest : (at b : ℕ) (bs : List ℕ) (n : ℕ) (k : TokenKind) → begins_comment (b ∷ bs) ≡ false → punct_lexeme at (punct_at (b ∷ bs)) ≡ Ok (lexeme.Token k n) → IsLongest (b ∷ bs) n k
punct_is_longest at b bs n k no_comment e = punct_found at b bs n k (punct_at (b ∷ bs)) no_comment refl e

-- ---- every lexeme

quote_by : (line blank letter digit quote double hash slash : Bool) → start_by line blank letter digit quote double hash slash ≡ start.Quote → quote ≡ true
unfolding start_by
quote_by true _ _ _ _ _ _ _ e = absurd cc
quote_by false true _ _ _ _ _ _ e = absurd cc
quote_by false false true _ _ _ _ _ e = absurd cc
quote_by false false false true _ _ _ _ e = absurd cc
quote_by false false false false true _ _ _ e = refl
quote_by false false false false false true _ _ e = absurd cc
quote_by false false false false false false true _ e = absurd cc
quote_by false false false false false false false true e = absurd cc
quote_by false false false false false false false false e = absurd cc

double_by : (line blank letter digit quote double hash slash : Bool) → start_by line blank letter digit quote double hash slash ≡ start.DoubleQuote → double ≡ true
unfolding start_by
double_by true _ _ _ _ _ _ _ e = absurd cc
double_by false true _ _ _ _ _ _ e = absurd cc
double_by false false true _ _ _ _ _ e = absurd cc
double_by false false false true _ _ _ _ e = absurd cc
double_by false false false false true _ _ _ e = absurd cc
double_by false false false false false true _ _ e = refl
double_by false false false false false false true _ e = absurd cc
double_by false false false false false false false true e = absurd cc
double_by false false false false false false false false e = absurd cc

pub start_quote : (b : ℕ) → start_of b ≡ start.Quote → b ≡ 39
unfolding start_of start_by
start_quote b e = eqb-true b 39 (quote_by (is_line_end b) (is_inner_blank b) (is_letter b) (is_digit b) (eqb b 39) (eqb b 34) (eqb b 35) (eqb b 47) e)

pub start_double : (b : ℕ) → start_of b ≡ start.DoubleQuote → b ≡ 34
unfolding start_of start_by
start_double b e = eqb-true b 34 (double_by (is_line_end b) (is_inner_blank b) (is_letter b) (is_digit b) (eqb b 39) (eqb b 34) (eqb b 35) (eqb b 47) e)

other_by : (line blank letter digit quote double hash slash : Bool) → start_by line blank letter digit quote double hash slash ≡ start.Other → slash ≡ false
unfolding start_by
other_by true _ _ _ _ _ _ _ e = absurd cc
other_by false true _ _ _ _ _ _ e = absurd cc
other_by false false true _ _ _ _ _ e = absurd cc
other_by false false false true _ _ _ _ e = absurd cc
other_by false false false false true _ _ _ e = absurd cc
other_by false false false false false true _ _ e = absurd cc
other_by false false false false false false true _ e = absurd cc
other_by false false false false false false false true e = absurd cc
other_by false false false false false false false false e = refl

start_no_slash : (b : ℕ) → start_of b ≡ start.Other → b ≡ 47 → ⊥
unfolding start_of start_by
start_no_slash b e same =
    let no = other_by (is_line_end b) (is_inner_blank b) (is_letter b) (is_digit b) (eqb b 39) (eqb b 34) (eqb b 35) (eqb b 47) e in
    grind (arith, nat_tests)

slash_longest : (at b : ℕ) (bs : List ℕ) (n : ℕ) (k : TokenKind) → slash_at at (b ∷ bs) ≡ Ok (lexeme.Token k n) → IsLongest (b ∷ bs) n k
unfolding slash_at comment_at line_comment
slash_longest at b bs n k e =
    let text = b ∷ bs in
    elim (chosen (starts_with nat_eq text (codes "/*")) (comment_at at (drop 2 text)) (cond (starts_with nat_eq text (codes "//")) (Ok (line_comment (drop 2 text))) (punct_lexeme at
    (punct_at text))) (Ok (lexeme.Token k n)) e) [
      | inl (_, f) ↦ let trivia =
          bind_ok (ok_or (comment_end 0 (drop 2 text)) (fault.OpenComment at)) (λ m. Ok (lexeme.Trivia (m + 2))) (lexeme.Token k n) f in absurd (no_trivia (trivia.0 + 2) k n trivia.2)
      | inr (no_block, f) ↦ elim (chosen (starts_with nat_eq text (codes "//")) (Ok (line_comment (drop 2 text))) (punct_lexeme at (punct_at text)) (Ok (lexeme.Token k n)) f) [
        | inl (_, g) ↦ absurd (no_trivia (position_or_len is_line_end (drop 2 text) + 2) k n g)
        | inr (no_line, g) ↦ punct_is_longest at b bs n k (ap (λ t. t || starts_with nat_eq text (codes "//")) no_block ∙ no_line) g
      ]
    ]
  where
    no_trivia : (i : ℕ) (k : TokenKind) (n : ℕ) → found (lexeme.Trivia i) ≡ found (lexeme.Token k n) → ⊥
    no_trivia i k n e = cc

lexeme_longest_of : (s : Start) (at b : ℕ) (bs : List ℕ) (n : ℕ) (k : TokenKind) → start_of b ≡ s → lexeme_of s at (b ∷ bs) ≡ Ok (lexeme.Token k n) → IsLongest (b ∷ bs) n k
unfolding lexeme_of
lexeme_longest_of start.LineEnd at b bs n k is e = absurd cc
lexeme_longest_of start.Blank at b bs n k is e = absurd cc
lexeme_longest_of start.Letter at b bs n k is e = identifier_longest at b bs n k (start_letter b is) e
lexeme_longest_of start.Digit at b bs n k is e = number_longest at b bs n k (start_digit b is) e
lexeme_longest_of start.Quote at b bs n k is e = char_longest at b bs n k (start_quote b is) e
lexeme_longest_of start.DoubleQuote at b bs n k is e = string_longest at b bs n k (start_double b is) e
lexeme_longest_of start.Hash at b bs n k is e = absurd cc
lexeme_longest_of start.Slash at b bs n k is e = slash_longest at b bs n k e
lexeme_longest_of start.Other at b bs n k is e = punct_is_longest at b bs n k (no_slash b bs (start_no_slash b is)) e

pub lexeme_longest : (at : ℕ) (text : List ℕ) (n : ℕ) (k : TokenKind) → 0 < length text → lexeme_at at text ≡ Ok (lexeme.Token k n) → IsLongest text n k
lexeme_longest at [] n k some e = absurd (omega arith)
lexeme_longest at (b ∷ bs) n k some e = lexeme_longest_of (start_of b) at b bs n k refl e
