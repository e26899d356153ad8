-- What stands in a source by the grammar is what the definition gives there.
use Rattle.std.proofs.Common.{◌≡◌, ℕ, suc, ◌+◌, ◌<◌, ◌≤◌, Bool, true, false, cond, not, leb, ltb, ◌&&◌, List, [], ◌∷◌, ◌++◌, length, take, drop, Option, Some, None, Result, Ok, Err, codes, refl, sym, ap, ◌∙◌, subst, arith, inl, inr, append_assoc, zero-add}
use Rattle.std.specs.Prelude.{nat_eq, slice_index}
use Rattle.std.specs.Option.{ok_or, option_and_then}
use Rattle.std.specs.List.{list_all, prefix_len, starts_with}
use Rattle.std.proofs.lemmas.Bool.{cases_lt, le-ltb, leb-true, and_parts, or_parts}
use Rattle.std.proofs.lemmas.Bool.Decides.{nat_tests}
use Rattle.std.proofs.lemmas.List.{length-take, length-take-le, length-append, take-append-drop, take_at}
use Rattle.std.proofs.lemmas.List.Sums.{prefix_len-le-length}
use Rattle.base.specs.Limits.{most_name_bytes}
use Rattle.c_lex.specs.Results.{◌>>=◌}
use Rattle.c_lex.specs.Classes.{is_letter, is_digit, is_name_byte, is_number_byte, is_line_end, is_inner_blank}
use Rattle.c_lex.specs.Keywords.{keyword_of, keyword_spelling}
use Rattle.c_lex.specs.Punctuators.{punct_at, punct_spelling}
use Rattle.c_lex.specs.Numbers.{number_at, constant_at}
use Rattle.c_lex.specs.Quoted.{closing_from, characters, only, char_at, string_at}
use Rattle.c_lex.specs.Trivia.{comment_at, line_comment}
use Rattle.c_lex.specs.Lexemes.{lexeme_at, lexeme_of, start_of, identifier_at, identifier_kind_of, slash_at, punct_lexeme}
use Rattle.c_lex.specs.Grammar.{IsIdentifier, IsNumber, IsClosed, IsToken, begins_comment}
use Rattle.c_lex.specs.Faults.{IsLongest}
use Rattle.c_lex.specs.declared.fault.LexFault.{LexFault}
use Rattle.c_lex.specs.declared.fault.LexFault.TheVariants as fault
use Rattle.c_lex.specs.declared.lexeme.Lexeme.{Lexeme}
use Rattle.c_lex.specs.declared.lexeme.Lexeme.TheVariants as lexeme
use Rattle.c_lex.specs.declared.lexeme.Start.{Start}
use Rattle.c_lex.specs.declared.lexeme.Start.TheVariants as start
use Rattle.c_lex.specs.declared.keyword.Keyword.{Keyword}
use Rattle.c_lex.specs.declared.punct.Punct.{Punct}
use Rattle.c_lex.specs.declared.token.TokenKind.{TokenKind}
use Rattle.c_lex.specs.declared.token.TokenKind.TheVariants as kind
use Rattle.c_lex.proofs.Lengths.{digit_goes_on}
use Rattle.c_lex.proofs.Tables.{each_keyword, each_punct, keyword_found, no_keyword, punct_begins, punct_found, punct_longest, punct_none}
use Rattle.c_lex.proofs.Sorts.{run_most, closed_found, token_quoted, token_double}
use Rattle.c_lex.proofs.Munch.{identifier_is, number_is, constant_number}
use Rattle.c_lex.proofs.Reading.{letter_starts, identifier_all}

-- ---- tables

abbrev is_identifier : List ℕ → Bool
is_identifier [] = false
is_identifier (b ∷ bs) = is_letter b && list_all is_name_byte bs

identifier_by : (bytes : List ℕ) → is_identifier bytes ≡ true → IsIdentifier bytes
identifier_by [] e = absurd cc
identifier_by (b ∷ bs) e = and_parts (is_letter b) (list_all is_name_byte bs) e

keyword_identifier : (k : Keyword) → IsIdentifier (keyword_spelling k)
keyword_identifier k = identifier_by (keyword_spelling k) (each_keyword (λ j. is_identifier (keyword_spelling j)) refl k)

keyword_short : (k : Keyword) → length (keyword_spelling k) ≤ most_name_bytes
keyword_short k = leb-true (length (keyword_spelling k)) most_name_bytes (each_keyword (λ j. leb (length (keyword_spelling j)) most_name_bytes) refl k)

-- a byte that begins punctuators
abbrev pub is_punct_start : Start → Bool
is_punct_start start.Slash = true
is_punct_start start.Other = true
is_punct_start _ = false

pub punct_starts : (p : Punct) → is_punct_start (start_of (slice_index (punct_spelling p) 0)) ≡ true
unfolding start_of
punct_starts = each_punct (λ q. is_punct_start (start_of (slice_index (punct_spelling q) 0))) refl

abbrev pub on_line : List ℕ → Bool
on_line bytes = list_all (λ b. not (is_line_end b)) bytes

pub punct_on_line : (p : Punct) → on_line (punct_spelling p) ≡ true
punct_on_line = each_punct (λ q. on_line (punct_spelling q)) refl

-- ---- names and keywords

pub run_is : (p : ℕ → Bool) (rest : List ℕ) (n : ℕ) → n ≤ length rest → list_all p (take n rest) ≡ true → (n < prefix_len p rest → ⊥) → prefix_len p rest ≡ n
run_is p rest n within all longer =
    let most = run_most p rest n within all in
    elim (cases_lt n (prefix_len p rest)) [
      | inl less ↦ absurd (longer less)
      | inr le ↦ omega arith
    ]

identifier_token : (at b : ℕ) (bs : List ℕ) (n : ℕ) (k : TokenKind) → suc n ≤ length (b ∷ bs) → IsIdentifier (take (suc n) (b ∷ bs)) → ((m : ℕ) → suc n < m → m ≤ length (b ∷ bs) →
    IsToken (take m (b ∷ bs)) → ⊥) → suc n ≤ most_name_bytes → identifier_kind_of (take (suc n) (b ∷ bs)) (keyword_of (take (suc n) (b ∷ bs))) ≡ k → lexeme_at at (b ∷ bs) ≡ Ok (lexeme.Token k (suc n))
unfolding lexeme_of identifier_at
identifier_token at b bs n k within identifier longest short is =
    let rest = b ∷ bs in
    let all = identifier_all b (take n bs) identifier in
    let run : prefix_len is_name_byte rest ≡ suc n =
    run_is is_name_byte rest (suc n) within all (λ less. longest (prefix_len is_name_byte rest) less (prefix_len-le-length is_name_byte rest) (inl (identifier_is b bs identifier.0))) in
    let fits : ltb most_name_bytes (suc n) ≡ false = le-ltb most_name_bytes (suc n) short in
    ap (λ s. lexeme_of s at rest) (letter_starts b identifier.0)
    ∙ ap (λ m. cond (ltb most_name_bytes m) (Err (fault.LongName at)) (Ok (lexeme.Token (identifier_kind_of (take m rest) (keyword_of (take m rest))) m))) run
    ∙ ap (λ t. cond t (Err (fault.LongName at)) (Ok (lexeme.Token (identifier_kind_of (take (suc n) rest) (keyword_of (take (suc n) rest))) (suc n)))) fits
    ∙ ap (λ j. Ok (lexeme.Token j (suc n))) is

-- ---- numbers

pub digit_starts : (b : ℕ) → is_digit b ≡ true → start_of b ≡ start.Digit
unfolding start_of
digit_starts b e =
    let line : is_line_end b ≡ false = grind (arith, nat_tests) in
    let blank : is_inner_blank b ≡ false = grind (arith, nat_tests) in
    let letter : is_letter b ≡ false = grind (arith, nat_tests) in
    rw (line, blank, letter, e) refl

pub number_all : (b : ℕ) (bs : List ℕ) → IsNumber (b ∷ bs) → list_all is_number_byte (b ∷ bs) ≡ true
number_all b bs h = ap (λ t. t && list_all is_number_byte bs) (digit_goes_on b h.0) ∙ h.1

number_token : (at b : ℕ) (bs : List ℕ) (n v : ℕ) (u : Bool) → suc n ≤ length (b ∷ bs) → IsNumber (take (suc n) (b ∷ bs)) → ((m : ℕ) → suc n < m → m ≤ length (b ∷ bs) →
    IsToken (take m (b ∷ bs)) → ⊥) → constant_at 0 (take (suc n) (b ∷ bs)) ≡ Ok (kind.Number v u) → lexeme_at at (b ∷ bs) ≡ Ok (lexeme.Token (kind.Number v u) (suc n))
unfolding lexeme_of number_at
number_token at b bs n v u within number longest is =
    let rest = b ∷ bs in
    let run : prefix_len is_number_byte rest ≡ suc n =
    run_is is_number_byte rest (suc n) within (number_all b (take n bs) number) (λ less. longest (prefix_len is_number_byte rest) less (prefix_len-le-length is_number_byte rest) (inr (inl
    (number_is b bs number.0)))) in
    let made = constant_number 0 at (take (suc n) rest) (kind.Number v u) is in
    let here : constant_at at (take (suc n) rest) ≡ Ok (kind.Number v u) = made.3 ∙ ap (λ k. Ok k) (sym made.2) in
    ap (λ s. lexeme_of s at rest) (digit_starts b number.0)
    ∙ ap (λ m. constant_at at (take m rest) >>= λ k. Ok (lexeme.Token k m)) run
    ∙ ap (λ r. r >>= λ k. Ok (lexeme.Token k (suc n))) here

-- ---- between quotes

pub tail_is : (b c : ℕ) (bs cs : List ℕ) → b ∷ bs ≡ c ∷ cs → bs ≡ cs
tail_is b c bs cs e = cc

pub head_is : (b c : ℕ) (bs cs : List ℕ) → b ∷ bs ≡ c ∷ cs → b ≡ c
head_is b c bs cs e = cc

-- where the closing quote is found, and what stands before it
record IsInner (quote : ℕ) (bs : List ℕ) (n : ℕ) (inner : List ℕ) : Type 0 where
  size : length inner + 2 ≡ suc n
  closes_at : closing_from quote false 0 bs ≡ Some (length inner)
  front : take (length inner) bs ≡ inner

inner_is : (quote n : ℕ) (bs inner : List ℕ) → (quote ≡ 10 → ⊥) → (quote ≡ 92 → ⊥) → n ≤ length bs → IsClosed quote (take n bs) → take n bs ≡ inner ++ quote ∷ [] → IsInner quote bs n inner
inner_is quote n bs inner q10 q92 within closed is =
    let k = length inner in
    let size : length (take n bs) ≡ suc k = omega (arith, ap length is, length-append inner (quote ∷ [])) in
    let n_is : length (take n bs) ≡ n = length-take-le n bs within in
    let there = closed_found quote 0 k (take n bs) (drop n bs) q10 q92 size closed in
    let whole : bs ≡ inner ++ (quote ∷ [] ++ drop n bs) = sym (take-append-drop n bs) ∙ ap (λ (t : List ℕ). t ++ drop n bs) is ∙ append_assoc inner (quote ∷ []) (drop n bs) in
    record {
      size = omega arith;
      closes_at = ap (closing_from quote false 0) (sym (take-append-drop n bs)) ∙ there ∙ ap Some (zero-add k);
      front = ap (take k) whole ∙ take_at inner (quote ∷ [] ++ drop n bs) k refl;
    }

char_token : (at b : ℕ) (bs : List ℕ) (n c : ℕ) (inner : List ℕ) → suc n ≤ length (b ∷ bs) → IsToken (take (suc n) (b ∷ bs)) → take (suc n) (b ∷ bs) ≡ 39 ∷ (inner ++ 39 ∷ []) →
    characters 0 inner ≡ Some (c ∷ []) → lexeme_at at (b ∷ bs) ≡ Ok (lexeme.Token (kind.Char c) (suc n))
unfolding lexeme_of start_of char_at
char_token at b bs n c inner within token is one =
    let quote : b ≡ 39 = head_is b 39 (take n bs) (inner ++ 39 ∷ []) is in
    let found = inner_is 39 n bs inner (λ q. omega arith) (λ q. omega arith) (omega arith) (token_quoted b (take n bs) quote token) (tail_is b 39 (take n bs) (inner ++ 39 ∷ []) is) in
    let make : ℕ → Result Lexeme LexFault = λ m. ok_or (option_and_then only (characters 0 (take m bs))) (fault.BadText at) >>= λ d. Ok (lexeme.Token (kind.Char d) (m + 2)) in
    ap (λ x. lexeme_at at (x ∷ bs)) quote
    ∙ ap (λ o. ok_or o (fault.OpenText at) >>= make) found.closes_at
    ∙ ap (λ (t : List ℕ). ok_or (option_and_then only (characters 0 t)) (fault.BadText at) >>= λ d. Ok (lexeme.Token (kind.Char d) (length inner + 2))) found.front
    ∙ ap (λ o. ok_or (option_and_then only o) (fault.BadText at) >>= λ d. Ok (lexeme.Token (kind.Char d) (length inner + 2))) one
    ∙ ap (λ m. Ok (lexeme.Token (kind.Char c) m)) found.size

string_token : (at b : ℕ) (bs : List ℕ) (n : ℕ) (cs inner : List ℕ) → suc n ≤ length (b ∷ bs) → IsToken (take (suc n) (b ∷ bs)) → take (suc n) (b ∷ bs) ≡ 34 ∷ (inner ++ 34 ∷ []) →
    characters 0 inner ≡ Some cs → lexeme_at at (b ∷ bs) ≡ Ok (lexeme.Token (kind.Text cs) (suc n))
unfolding lexeme_of start_of string_at
string_token at b bs n cs inner within token is all =
    let quote : b ≡ 34 = head_is b 34 (take n bs) (inner ++ 34 ∷ []) is in
    let found = inner_is 34 n bs inner (λ q. omega arith) (λ q. omega arith) (omega arith) (token_double b (take n bs) quote token) (tail_is b 34 (take n bs) (inner ++ 34 ∷ []) is) in
    let make : ℕ → Result Lexeme LexFault = λ m. ok_or (characters 0 (take m bs)) (fault.BadText at) >>= λ d. Ok (lexeme.Token (kind.Text d) (m + 2)) in
    ap (λ x. lexeme_at at (x ∷ bs)) quote
    ∙ ap (λ o. ok_or o (fault.OpenText at) >>= make) found.closes_at
    ∙ ap (λ (t : List ℕ). ok_or (characters 0 t) (fault.BadText at) >>= λ d. Ok (lexeme.Token (kind.Text d) (length inner + 2))) found.front
    ∙ ap (λ o. ok_or o (fault.BadText at) >>= λ d. Ok (lexeme.Token (kind.Text d) (length inner + 2))) all
    ∙ ap (λ m. Ok (lexeme.Token (kind.Text cs) m)) found.size

-- ---- punctuators

same_punct : (p q : Punct) → punct_spelling p ≡ punct_spelling q → p ≡ q
same_punct p q e = some_same p q (sym (punct_found p) ∙ ap punct_at e ∙ punct_found q)
  where
    some_same : (x y : Punct) → Some x ≡ Some y → x ≡ y
    some_same x y f = cc

punct_here : (rest : List ℕ) (n : ℕ) (p : Punct) → n ≤ length rest → punct_spelling p ≡ take n rest → ((m : ℕ) → n < m → m ≤ length rest → IsToken (take m rest) → ⊥) → punct_at rest ≡ Some p
punct_here rest n p within is longest = by_found (punct_at rest) refl
  where
    size : length (punct_spelling p) ≡ n
    size = ap length is ∙ length-take-le n rest within

    begins : take (length (punct_spelling p)) rest ≡ punct_spelling p
    begins = ap (λ m. take m rest) size ∙ sym is

    by_found : (o : Option Punct) → punct_at rest ≡ o → o ≡ Some p
    by_found None none = absurd (punct_none rest p none begins)
    by_found (Some q) found =
        let q_begins = punct_begins rest q found in
        let m = length (punct_spelling q) in
        let long : n ≤ m = omega (arith, punct_longest rest q p found begins, size) in
        let fits : m ≤ length rest = omega (arith, ap length q_begins, length-take m rest) in
        elim (cases_lt n m) [
          | inl less ↦ absurd (longest m less fits (inr (inr (inr (inr (q, sym q_begins))))))
          | inr le ↦
              let same : m ≡ n = omega arith in
              ap Some (same_punct q p (sym q_begins ∙ ap (λ i. take i rest) same ∙ sym is))
        ]

punct_token_by : (at n : ℕ) (rest : List ℕ) (p : Punct) (s : Start) → is_punct_start s ≡ true → begins_comment rest ≡ false → punct_at rest ≡ Some p → length (punct_spelling p) ≡ n →
    lexeme_of s at rest ≡ Ok (lexeme.Token (kind.Punct p) n)
unfolding lexeme_of slash_at
punct_token_by at n rest p start.Slash h no_comment is size =
    let parts = or_parts (starts_with nat_eq rest (codes "/*")) (starts_with nat_eq rest (codes "//")) no_comment in
    ap (λ t. cond t (comment_at at (drop 2 rest)) (cond (starts_with nat_eq rest (codes "//")) (Ok (line_comment (drop 2 rest))) (punct_lexeme at (punct_at rest)))) parts.0
    ∙ ap (λ t. cond t (Ok (line_comment (drop 2 rest))) (punct_lexeme at (punct_at rest))) parts.1
    ∙ ap (punct_lexeme at) is ∙ ap (λ m. Ok (lexeme.Token (kind.Punct p) m)) size
punct_token_by at n rest p start.Other h no_comment is size = ap (punct_lexeme at) is ∙ ap (λ m. Ok (lexeme.Token (kind.Punct p) m)) size
punct_token_by at n rest p start.LineEnd h no_comment is size = absurd cc
punct_token_by at n rest p start.Blank h no_comment is size = absurd cc
punct_token_by at n rest p start.Letter h no_comment is size = absurd cc
punct_token_by at n rest p start.Digit h no_comment is size = absurd cc
punct_token_by at n rest p start.Quote h no_comment is size = absurd cc
punct_token_by at n rest p start.DoubleQuote h no_comment is size = absurd cc
punct_token_by at n rest p start.Hash h no_comment is size = absurd cc

-- ---- every token

pub token_lexeme : (at b : ℕ) (bs : List ℕ) (n : ℕ) (k : TokenKind) → suc n ≤ length (b ∷ bs) → IsLongest (b ∷ bs) (suc n) k → lexeme_at at (b ∷ bs) ≡ Ok (lexeme.Token k (suc n))
token_lexeme at b bs n (kind.Name name) within h =
    let bytes = take (suc n) (b ∷ bs) in
    let size : length bytes ≡ suc n = length-take-le (suc n) (b ∷ bs) within in
    let none = no_keyword bytes (keyword_of bytes) refl h.spells.3 in
    identifier_token at b bs n (kind.Name name) within h.spells.0 h.longest (omega (arith, h.spells.2)) (ap (identifier_kind_of bytes) none ∙ ap kind.Name (sym h.spells.1))
token_lexeme at b bs n (kind.Keyword w) within h =
    let bytes = take (suc n) (b ∷ bs) in
    let size : length bytes ≡ suc n = length-take-le (suc n) (b ∷ bs) within in
    let is : IsIdentifier bytes = subst (λ (t : List ℕ). IsIdentifier t) h.spells (keyword_identifier w) in
    let found : keyword_of bytes ≡ Some w = ap keyword_of (sym h.spells) ∙ keyword_found w in
    identifier_token at b bs n (kind.Keyword w) within is h.longest (omega (arith, keyword_short w, ap length h.spells)) (ap (identifier_kind_of bytes) found)
token_lexeme at b bs n (kind.Number v u) within h = number_token at b bs n v u within h.spells.0 h.longest h.spells.1
token_lexeme at b bs n (kind.Char c) within h = char_token at b bs n c h.spells.0 within h.token h.spells.1 h.spells.2
token_lexeme at b bs n (kind.Text cs) within h = string_token at b bs n cs h.spells.0 within h.token h.spells.1 h.spells.2
token_lexeme at b bs n (kind.Punct p) within h =
    let rest = b ∷ bs in
    let size : length (punct_spelling p) ≡ suc n = ap length h.spells ∙ length-take-le (suc n) rest within in
    let first : is_punct_start (start_of b) ≡ true = ap (λ (t : List ℕ). is_punct_start (start_of (slice_index t 0))) (sym h.spells) ∙ punct_starts p in
    punct_token_by at (suc n) rest p (start_of b) first h.no_comment (punct_here rest (suc n) p within h.spells h.longest) size
