-- A lexeme takes at least one byte, and no more than there are.
use Rattle.std.proofs.Common.{◌≡◌, ◌⊎◌, ℕ, ◌+◌, ◌-◌, ◌<◌, ◌≤◌, Bool, true, false, cond, not, subst, lit<, eqb, ltb, List, [], ◌∷◌, length, drop, take, Option, Some, None, Result, Ok, Err, codes, refl, sym, ap, ◌∙◌, arith, inl, inr}
use Rattle.std.specs.Prelude.{nat_eq, find}
use Rattle.std.specs.Option.{ok_or, option_and_then, option_map_or}
use Rattle.std.specs.List.{starts_with, prefix_len, position_or_len}
use Rattle.std.proofs.lemmas.List.{length-drop}
use Rattle.std.proofs.lemmas.List.Sums.{prefix_len-le-length}
use Rattle.std.proofs.lemmas.Bool.{or_left, or_right, and_parts}
use Rattle.base.specs.Limits.{most_name_bytes}
use Rattle.c_lex.specs.Results.{◌>>=◌}
use Rattle.c_lex.specs.Classes.{is_letter, is_digit, is_name_byte, is_number_byte, is_inner_blank, is_line_end}
use Rattle.c_lex.specs.Trivia.{comment_end, comment_at, line_comment, include_len, past_include}
use Rattle.c_lex.specs.Numbers.{number_at, constant_at}
use Rattle.c_lex.specs.Quoted.{closing_from, characters, only, char_at, string_at}
use Rattle.c_lex.specs.Keywords.{keyword_of}
use Rattle.c_lex.specs.Punctuators.{punct_at, punct_spelling, all_puncts}
use Rattle.c_lex.specs.Lexemes.{lexeme_at, lexeme_of, lexeme_len, start_of, identifier_at, identifier_kind_of, slash_at, punct_lexeme}
use Rattle.c_lex.specs.declared.fault.LexFault.{LexFault}
use Rattle.c_lex.specs.declared.fault.LexFault.TheVariants as fault
use Rattle.c_lex.specs.declared.lexeme.Lexeme.{Lexeme}
use Rattle.c_lex.specs.declared.lexeme.Lexeme.TheVariants as lexeme
use Rattle.c_lex.specs.declared.lexeme.Start.{Start}
use Rattle.c_lex.specs.declared.lexeme.Start.TheVariants as start
use Rattle.c_lex.specs.declared.punct.Punct.{Punct}
use Rattle.c_lex.specs.declared.punct.Punct.TheVariants as mark
use Rattle.c_lex.specs.declared.token.TokenKind.TheVariants as kind

-- ---- steps that did not fail

pub bind_ok : {A B : Type 0} (r : Result A LexFault) (f : A → Result B LexFault) (y : B) → (r >>= f) ≡ Ok y → (x : A) × (r ≡ Ok x) × (f x ≡ Ok y)
bind_ok (Ok x) f y e = (x, refl, e)
bind_ok (Err d) f y e = absurd cc

pub ok_or_ok : {A : Type 0} (o : Option A) (d : LexFault) (x : A) → ok_or o d ≡ Ok x → o ≡ Some x
ok_or_ok None d x e = absurd cc
ok_or_ok (Some y) d x e = cc

-- an `if` whose outcome is known
pub chosen : {A : Type 0} (b : Bool) (x y z : A) → cond b x y ≡ z → ((b ≡ true) × (x ≡ z)) ⊎ ((b ≡ false) × (y ≡ z))
chosen true x y z e = inl (refl, e)
chosen false x y z e = inr (refl, e)

-- ---- the parts

pub closing_within : (quote : ℕ) (taken : Bool) (at : ℕ) (text : List ℕ) (n : ℕ) → closing_from quote taken at text ≡ Some n → (at ≤ n) × (n < at + length text)
closing_within quote taken at [] n e = absurd cc
closing_within quote taken at (b ∷ bs) n e =
    elim (chosen (eqb b 10) None (cond taken (closing_from quote false (at + 1) bs) (cond (eqb b quote) (Some at) (closing_from quote (eqb b 92) (at + 1) bs))) (Some n) e) [
      | inl (_, f) ↦ absurd cc
      | inr (_, f) ↦ elim (chosen taken (closing_from quote false (at + 1) bs) (cond (eqb b quote) (Some at) (closing_from quote (eqb b 92) (at + 1) bs)) (Some n) f) [
        | inl (_, g) ↦ let h = closing_within quote false (at + 1) bs n g in (omega arith, omega arith)
        | inr (_, g) ↦ elim (chosen (eqb b quote) (Some at) (closing_from quote (eqb b 92) (at + 1) bs) (Some n) g) [
          | inl (_, k) ↦ let same : at ≡ n = cc in (omega arith, omega arith)
          | inr (_, k) ↦ let h = closing_within quote (eqb b 92) (at + 1) bs n k in (omega arith, omega arith)
        ]
      ]
    ]

pub starts_long : (text prefix : List ℕ) → starts_with nat_eq text prefix ≡ true → length prefix ≤ length text
starts_long text [] e = omega arith
starts_long [] (c ∷ cs) e = absurd cc
starts_long (b ∷ bs) (c ∷ cs) e = omega (arith, starts_long bs cs (and_parts (nat_eq c b) (starts_with nat_eq bs cs) e).1)

pub comment_within : (at : ℕ) (text : List ℕ) (n : ℕ) → comment_end at text ≡ Some n → n ≤ at + length text
comment_within at [] n e = absurd cc
comment_within at (b ∷ bs) n e =
    elim (chosen (starts_with nat_eq (b ∷ bs) (codes "*/")) (Some (at + 2)) (comment_end (at + 1) bs) (Some n) e) [
      | inl (passes, f) ↦ let long = starts_long (b ∷ bs) (codes "*/") passes in let same : at + 2 ≡ n = cc in omega arith
      | inr (_, f) ↦ omega (arith, comment_within (at + 1) bs n f)
    ]

pub include_within : (line : List ℕ) → include_len line ≤ length line
include_within line = by_rest (past_include line)
  where
    by_rest : (o : Option (List ℕ)) → option_map_or (λ rest. length line - length rest) o 0 ≤ length line
    by_rest None = omega arith
    by_rest (Some rest) = omega arith

pub run_some : (p : ℕ → Bool) (b : ℕ) (bs : List ℕ) → p b ≡ true → 0 < prefix_len p (b ∷ bs)
run_some p b bs e = let first : prefix_len p (b ∷ bs) ≡ 1 + prefix_len p bs = ap (λ t. cond t (1 + prefix_len p bs) 0) e in omega arith

pub letter_is_name_byte : (b : ℕ) → is_letter b ≡ true → is_name_byte b ≡ true
letter_is_name_byte b e = or_left (is_letter b) (is_digit b) e

pub digit_goes_on : (b : ℕ) → is_digit b ≡ true → is_number_byte b ≡ true
digit_goes_on b e = or_left (is_name_byte b) (eqb b 46) (or_right (is_letter b) (is_digit b) e)

-- ---- what a first byte begins

unfoldable pub start_by : (line blank letter digit quote double hash slash : Bool) → Start
start_by line blank letter digit quote double hash slash =
    cond line start.LineEnd (cond blank start.Blank (cond letter start.Letter (cond digit start.Digit (cond quote start.Quote (cond double start.DoubleQuote (cond hash start.Hash
    (cond slash start.Slash start.Other)))))))

letter_by : (line blank letter digit quote double hash slash : Bool) → start_by line blank letter digit quote double hash slash ≡ start.Letter → letter ≡ true
unfolding start_by
letter_by true _ _ _ _ _ _ _ e = absurd cc
letter_by false true _ _ _ _ _ _ e = absurd cc
letter_by false false true _ _ _ _ _ e = refl
letter_by false false false true _ _ _ _ e = absurd cc
letter_by false false false false true _ _ _ e = absurd cc
letter_by false false false false false true _ _ e = absurd cc
letter_by false false false false false false true _ e = absurd cc
letter_by false false false false false false false true e = absurd cc
letter_by false false false false false false false false e = absurd cc

digit_by : (line blank letter digit quote double hash slash : Bool) → start_by line blank letter digit quote double hash slash ≡ start.Digit → digit ≡ true
unfolding start_by
digit_by true _ _ _ _ _ _ _ e = absurd cc
digit_by false true _ _ _ _ _ _ e = absurd cc
digit_by false false true _ _ _ _ _ e = absurd cc
digit_by false false false true _ _ _ _ e = refl
digit_by false false false false true _ _ _ e = absurd cc
digit_by false false false false false true _ _ e = absurd cc
digit_by false false false false false false true _ e = absurd cc
digit_by false false false false false false false true e = absurd cc
digit_by false false false false false false false false e = absurd cc

pub start_letter : (b : ℕ) → start_of b ≡ start.Letter → is_letter b ≡ true
unfolding start_of start_by
start_letter b e = letter_by (is_line_end b) (is_inner_blank b) (is_letter b) (is_digit b) (eqb b 39) (eqb b 34) (eqb b 35) (eqb b 47) e

pub start_digit : (b : ℕ) → start_of b ≡ start.Digit → is_digit b ≡ true
unfolding start_of start_by
start_digit b e = digit_by (is_line_end b) (is_inner_blank b) (is_letter b) (is_digit b) (eqb b 39) (eqb b 34) (eqb b 35) (eqb b 47) e

-- ---- lexemes

-- a lexeme takes at least one byte, and no more than there are
abbrev pub IsFitting : Lexeme → List ℕ → Type 0
IsFitting i text = (0 < lexeme_len i) × (lexeme_len i ≤ length text)

abbrev pub found : Lexeme → Result Lexeme LexFault
found i = Ok i

fits_ok : (i j : Lexeme) (text : List ℕ) → IsFitting i text → found i ≡ found j → IsFitting j text
fits_ok i j text h e = let same : i ≡ j = cc in subst (λ (k : Lexeme). IsFitting k text) same h

identifier_fits : (at b : ℕ) (bs : List ℕ) (i : Lexeme) → is_letter b ≡ true → identifier_at at (b ∷ bs) ≡ Ok i → IsFitting i (b ∷ bs)
unfolding identifier_at
identifier_fits at b bs i letter e =
    let text = b ∷ bs in
    let n = prefix_len is_name_byte text in
    let some : 0 < n = run_some is_name_byte b bs (letter_is_name_byte b letter) in
    let k = identifier_kind_of (take n text) (keyword_of (take n text)) in
    elim (chosen (ltb most_name_bytes n) (Err (fault.LongName at)) (Ok (lexeme.Token k n)) (Ok i) e) [
      | inl (_, f) ↦ absurd cc
      | inr (_, f) ↦ fits_ok (lexeme.Token k n) i text (some, prefix_len-le-length is_name_byte text) f
    ]

number_fits : (at b : ℕ) (bs : List ℕ) (i : Lexeme) → is_digit b ≡ true → number_at at (b ∷ bs) ≡ Ok i → IsFitting i (b ∷ bs)
unfolding number_at
number_fits at b bs i digit e =
    let text = b ∷ bs in
    let n = prefix_len is_number_byte text in
    let some : 0 < n = run_some is_number_byte b bs (digit_goes_on b digit) in
    let k = bind_ok (constant_at at (take n text)) (λ k. Ok (lexeme.Token k n)) i e in
    fits_ok (lexeme.Token k.0 n) i text (some, prefix_len-le-length is_number_byte text) k.2

char_fits : (at b : ℕ) (bs : List ℕ) (i : Lexeme) → char_at at bs ≡ Ok i → IsFitting i (b ∷ bs)
unfolding char_at
char_fits at b bs i e =
    let closed =
    bind_ok (ok_or (closing_from 39 false 0 bs) (fault.OpenText at)) (λ n. ok_or (option_and_then only (characters 0 (take n bs))) (fault.BadText at) >>= λ c. Ok (lexeme.Token (kind.Char c)
    (n + 2))) i e in
    let n = closed.0 in
    let within = closing_within 39 false 0 bs n (ok_or_ok (closing_from 39 false 0 bs) (fault.OpenText at) n closed.1) in
    let made = bind_ok (ok_or (option_and_then only (characters 0 (take n bs))) (fault.BadText at)) (λ c. Ok (lexeme.Token (kind.Char c) (n + 2))) i closed.2 in
    fits_ok (lexeme.Token (kind.Char made.0) (n + 2)) i (b ∷ bs) (omega arith, omega arith) made.2

string_fits : (at b : ℕ) (bs : List ℕ) (i : Lexeme) → string_at at bs ≡ Ok i → IsFitting i (b ∷ bs)
unfolding string_at
string_fits at b bs i e =
    let closed = bind_ok (ok_or (closing_from 34 false 0 bs) (fault.OpenText at)) (λ n. ok_or (characters 0 (take n bs)) (fault.BadText at) >>= λ c. Ok (lexeme.Token (kind.Text c) (n + 2))) i e in
    let n = closed.0 in
    let within = closing_within 34 false 0 bs n (ok_or_ok (closing_from 34 false 0 bs) (fault.OpenText at) n closed.1) in
    let made = bind_ok (ok_or (characters 0 (take n bs)) (fault.BadText at)) (λ c. Ok (lexeme.Token (kind.Text c) (n + 2))) i closed.2 in
    fits_ok (lexeme.Token (kind.Text made.0) (n + 2)) i (b ∷ bs) (omega arith, omega arith) made.2

comment_fits : (at : ℕ) (text : List ℕ) (i : Lexeme) → 2 ≤ length text → comment_at at (drop 2 text) ≡ Ok i → IsFitting i text
unfolding comment_at
comment_fits at text i long e =
    let closed = bind_ok (ok_or (comment_end 0 (drop 2 text)) (fault.OpenComment at)) (λ n. Ok (lexeme.Trivia (n + 2))) i e in
    let n = closed.0 in
    let within = comment_within 0 (drop 2 text) n (ok_or_ok (comment_end 0 (drop 2 text)) (fault.OpenComment at) n closed.1) in
    let size = length-drop 2 text in
    fits_ok (lexeme.Trivia (n + 2)) i text (omega arith, omega arith) closed.2

pub punct_some : (p : Punct) → 0 < length (punct_spelling p)
punct_some mark.LParen = lit< tt
punct_some mark.RParen = lit< tt
punct_some mark.LBracket = lit< tt
punct_some mark.RBracket = lit< tt
punct_some mark.LBrace = lit< tt
punct_some mark.RBrace = lit< tt
punct_some mark.Semicolon = lit< tt
punct_some mark.Comma = lit< tt
punct_some mark.Dot = lit< tt
punct_some mark.Arrow = lit< tt
punct_some mark.PlusPlus = lit< tt
punct_some mark.MinusMinus = lit< tt
punct_some mark.Amp = lit< tt
punct_some mark.Star = lit< tt
punct_some mark.Plus = lit< tt
punct_some mark.Minus = lit< tt
punct_some mark.Tilde = lit< tt
punct_some mark.Bang = lit< tt
punct_some mark.Slash = lit< tt
punct_some mark.Percent = lit< tt
punct_some mark.ShiftLeft = lit< tt
punct_some mark.ShiftRight = lit< tt
punct_some mark.Less = lit< tt
punct_some mark.Greater = lit< tt
punct_some mark.LessEqual = lit< tt
punct_some mark.GreaterEqual = lit< tt
punct_some mark.EqualEqual = lit< tt
punct_some mark.BangEqual = lit< tt
punct_some mark.Caret = lit< tt
punct_some mark.Pipe = lit< tt
punct_some mark.AmpAmp = lit< tt
punct_some mark.PipePipe = lit< tt
punct_some mark.Question = lit< tt
punct_some mark.Colon = lit< tt
punct_some mark.Equal = lit< tt
punct_some mark.StarEqual = lit< tt
punct_some mark.SlashEqual = lit< tt
punct_some mark.PercentEqual = lit< tt
punct_some mark.PlusEqual = lit< tt
punct_some mark.MinusEqual = lit< tt
punct_some mark.ShiftLeftEqual = lit< tt
punct_some mark.ShiftRightEqual = lit< tt
punct_some mark.AmpEqual = lit< tt
punct_some mark.CaretEqual = lit< tt
punct_some mark.PipeEqual = lit< tt

pub find_passes : {X : Type 0} (p : X → Bool) (xs : List X) (x : X) → find p xs ≡ Some x → p x ≡ true
find_passes p [] x e = absurd cc
find_passes p (y ∷ ys) x e =
    elim (chosen (p y) (Some y) (find p ys) (Some x) e) [
      | inl (passes, f) ↦ let same : y ≡ x = cc in ap p (sym same) ∙ passes
      | inr (_, f) ↦ find_passes p ys x f
    ]

punct_fits : (at : ℕ) (text : List ℕ) (i : Lexeme) → punct_lexeme at (punct_at text) ≡ Ok i → IsFitting i text
punct_fits at text i e = by_found (punct_at text) refl e
  where
    by_found : (o : Option Punct) → punct_at text ≡ o → punct_lexeme at o ≡ Ok i → IsFitting i text
    by_found None is f = absurd cc
    by_found (Some p) is f =
        let begins = starts_long text (punct_spelling p) (find_passes (λ q. starts_with nat_eq text (punct_spelling q)) all_puncts p is) in
        fits_ok (lexeme.Token (kind.Punct p) (length (punct_spelling p))) i text (punct_some p, begins) f

slash_fits : (at : ℕ) (text : List ℕ) (i : Lexeme) → slash_at at text ≡ Ok i → IsFitting i text
unfolding slash_at line_comment
slash_fits at text i e =
    elim (chosen (starts_with nat_eq text (codes "/*")) (comment_at at (drop 2 text)) (cond (starts_with nat_eq text (codes "//")) (Ok (line_comment (drop 2 text))) (punct_lexeme at
    (punct_at text))) (Ok i) e) [
      | inl (passes, f) ↦ comment_fits at text i (starts_long text (codes "/*") passes) f
      | inr (_, f) ↦ elim (chosen (starts_with nat_eq text (codes "//")) (Ok (line_comment (drop 2 text))) (punct_lexeme at (punct_at text)) (Ok i) f) [
        | inl (passes, g) ↦
            let long = starts_long text (codes "//") passes in
            let n = position_or_len is_line_end (drop 2 text) in
            let within = prefix_len-le-length (λ b. not (is_line_end b)) (drop 2 text) in
            let size = length-drop 2 text in
            fits_ok (lexeme.Trivia (n + 2)) i text (omega arith, omega arith) g
        | inr (_, g) ↦ punct_fits at text i g
      ]
    ]

lexeme_fits_of : (s : Start) (at b : ℕ) (bs : List ℕ) (i : Lexeme) → start_of b ≡ s → lexeme_of s at (b ∷ bs) ≡ Ok i → IsFitting i (b ∷ bs)
unfolding lexeme_of
lexeme_fits_of start.LineEnd at b bs i is e = fits_ok (lexeme.Trivia (include_len bs + 1)) i (b ∷ bs) (omega arith, omega (arith, include_within bs)) e
lexeme_fits_of start.Blank at b bs i is e = fits_ok (lexeme.Trivia 1) i (b ∷ bs) (omega arith, omega arith) e
lexeme_fits_of start.Letter at b bs i is e = identifier_fits at b bs i (start_letter b is) e
lexeme_fits_of start.Digit at b bs i is e = number_fits at b bs i (start_digit b is) e
lexeme_fits_of start.Quote at b bs i is e = char_fits at b bs i e
lexeme_fits_of start.DoubleQuote at b bs i is e = string_fits at b bs i e
lexeme_fits_of start.Hash at b bs i is e = absurd cc
lexeme_fits_of start.Slash at b bs i is e = slash_fits at (b ∷ bs) i e
lexeme_fits_of start.Other at b bs i is e = punct_fits at (b ∷ bs) i e

pub lexeme_fits : (at : ℕ) (text : List ℕ) (i : Lexeme) → 0 < length text → lexeme_at at text ≡ Ok i → IsFitting i text
lexeme_fits at [] i some e = absurd (omega arith)
lexeme_fits at (b ∷ bs) i some e = lexeme_fits_of (start_of b) at b bs i refl e
