-- What is written for a token is read as that token.
use Rattle.std.proofs.Common.{◌≡◌, ◌⊎◌, ℕ, zero, suc, ◌+◌, ◌-◌, ◌*◌, ◌/◌, ◌%◌, ◌<◌, ◌≤◌, Bool, true, false, cond, eqb, ltb, ◌&&◌, ◌||◌, List, [], ◌∷◌, ◌++◌, length, take, drop, Some, None, Result, Ok, Err, refl, ap, ◌∙◌, arith, inl, inr, append_assoc, zero-add}
use Rattle.std.specs.Option.{ok_or, option_and_then}
use Rattle.std.specs.List.{prefix_len, list_all}
use Rattle.std.proofs.lemmas.Bool.{le-ltb}
use Rattle.std.proofs.lemmas.Bool.Decides.{nat_tests}
use Rattle.std.proofs.lemmas.List.{take_at, drop_at, length-append, append-nil}
use Rattle.std.proofs.lemmas.List.Sums.{fold_push}
use Rattle.base.specs.Limits.{most_name_bytes}
use Rattle.c_lex.specs.Results.{◌>>=◌}
use Rattle.c_lex.specs.Classes.{is_letter, is_digit, is_name_byte, is_number_byte, is_line_end, is_inner_blank}
use Rattle.c_lex.specs.Digits.{is_digit_in, digit_value, digits_value}
use Rattle.c_lex.specs.Keywords.{keyword_of}
use Rattle.c_lex.specs.Numbers.{number_at, constant_at, digits_at, typed, suffix}
use Rattle.c_lex.specs.Quoted.{closing_from, characters, character_at, escape_at, simple_escape, with_first, only, char_at, string_at}
use Rattle.c_lex.specs.Lexemes.{lexeme_at, lexeme_of, start_of, identifier_at, identifier_kind_of, slash_at}
use Rattle.c_lex.specs.Grammar.{IsIdentifier}
use Rattle.c_lex.specs.Written.{octal, is_escaped, escapes, quoted, written}
use Rattle.c_lex.specs.declared.fault.LexFault.{LexFault}
use Rattle.c_lex.specs.declared.fault.LexFault.TheVariants as fault
use Rattle.c_lex.specs.declared.lexeme.Lexeme.{Lexeme}
use Rattle.c_lex.specs.declared.lexeme.Lexeme.TheVariants as lexeme
use Rattle.c_lex.specs.declared.lexeme.Start.TheVariants as start
use Rattle.c_lex.specs.declared.keyword.Keyword.{Keyword}
use Rattle.c_lex.specs.declared.keyword.Keyword.TheVariants as keyword
use Rattle.c_lex.specs.declared.punct.Punct.{Punct}
use Rattle.c_lex.specs.declared.punct.Punct.TheVariants as mark
use Rattle.c_lex.specs.declared.token.TokenKind.{TokenKind}
use Rattle.c_lex.specs.declared.token.TokenKind.TheVariants as kind
use Rattle.c_lex.proofs.Lengths.{digit_goes_on}

-- what the tokens of a source are
abbrev pub IsProper : TokenKind → Type 0
IsProper (kind.Name name) = IsIdentifier name × (length name ≤ most_name_bytes) × (keyword_of name ≡ None)
IsProper (kind.Number value unsigned) = (value ≤ 4294967295) × (unsigned ≡ false → value ≤ 2147483647)
IsProper _ = Unit {0}

-- what is written for a token is read so, whatever follows the space after it
abbrev pub IsRead : TokenKind → Type 0
IsRead k = (at : ℕ) (more : List ℕ) → lexeme_at at (written k ++ 32 ∷ more) ≡ Ok (lexeme.Token k (length (written k)))

-- ---- keywords and punctuators

keyword_read : (k : Keyword) → IsRead (kind.Keyword k)
unfolding lexeme_of start_of identifier_at
keyword_read keyword.Break at more = refl
keyword_read keyword.Case at more = refl
keyword_read keyword.Char at more = refl
keyword_read keyword.Const at more = refl
keyword_read keyword.Continue at more = refl
keyword_read keyword.Default at more = refl
keyword_read keyword.Do at more = refl
keyword_read keyword.Else at more = refl
keyword_read keyword.For at more = refl
keyword_read keyword.If at more = refl
keyword_read keyword.Int at more = refl
keyword_read keyword.Return at more = refl
keyword_read keyword.Short at more = refl
keyword_read keyword.Signed at more = refl
keyword_read keyword.Sizeof at more = refl
keyword_read keyword.Static at more = refl
keyword_read keyword.Struct at more = refl
keyword_read keyword.Switch at more = refl
keyword_read keyword.Unsigned at more = refl
keyword_read keyword.Void at more = refl
keyword_read keyword.While at more = refl
keyword_read keyword.Auto at more = refl
keyword_read keyword.Double at more = refl
keyword_read keyword.Enum at more = refl
keyword_read keyword.Extern at more = refl
keyword_read keyword.Float at more = refl
keyword_read keyword.Goto at more = refl
keyword_read keyword.Inline at more = refl
keyword_read keyword.Long at more = refl
keyword_read keyword.Register at more = refl
keyword_read keyword.Restrict at more = refl
keyword_read keyword.Typedef at more = refl
keyword_read keyword.Union at more = refl
keyword_read keyword.Volatile at more = refl
keyword_read keyword.Alignas at more = refl
keyword_read keyword.Alignof at more = refl
keyword_read keyword.Atomic at more = refl
keyword_read keyword.Bool at more = refl
keyword_read keyword.Complex at more = refl
keyword_read keyword.Generic at more = refl
keyword_read keyword.Imaginary at more = refl
keyword_read keyword.Noreturn at more = refl
keyword_read keyword.StaticAssert at more = refl
keyword_read keyword.ThreadLocal at more = refl

punct_read : (p : Punct) → IsRead (kind.Punct p)
unfolding lexeme_of start_of slash_at
punct_read mark.LParen at more = refl
punct_read mark.RParen at more = refl
punct_read mark.LBracket at more = refl
punct_read mark.RBracket at more = refl
punct_read mark.LBrace at more = refl
punct_read mark.RBrace at more = refl
punct_read mark.Semicolon at more = refl
punct_read mark.Comma at more = refl
punct_read mark.Dot at more = refl
punct_read mark.Arrow at more = refl
punct_read mark.PlusPlus at more = refl
punct_read mark.MinusMinus at more = refl
punct_read mark.Amp at more = refl
punct_read mark.Star at more = refl
punct_read mark.Plus at more = refl
punct_read mark.Minus at more = refl
punct_read mark.Tilde at more = refl
punct_read mark.Bang at more = refl
punct_read mark.Slash at more = refl
punct_read mark.Percent at more = refl
punct_read mark.ShiftLeft at more = refl
punct_read mark.ShiftRight at more = refl
punct_read mark.Less at more = refl
punct_read mark.Greater at more = refl
punct_read mark.LessEqual at more = refl
punct_read mark.GreaterEqual at more = refl
punct_read mark.EqualEqual at more = refl
punct_read mark.BangEqual at more = refl
punct_read mark.Caret at more = refl
punct_read mark.Pipe at more = refl
punct_read mark.AmpAmp at more = refl
punct_read mark.PipePipe at more = refl
punct_read mark.Question at more = refl
punct_read mark.Colon at more = refl
punct_read mark.Equal at more = refl
punct_read mark.StarEqual at more = refl
punct_read mark.SlashEqual at more = refl
punct_read mark.PercentEqual at more = refl
punct_read mark.PlusEqual at more = refl
punct_read mark.MinusEqual at more = refl
punct_read mark.ShiftLeftEqual at more = refl
punct_read mark.ShiftRightEqual at more = refl
punct_read mark.AmpEqual at more = refl
punct_read mark.CaretEqual at more = refl
punct_read mark.PipeEqual at more = refl

-- ---- names

pub run_before : (p : ℕ → Bool) (xs : List ℕ) (y : ℕ) (more : List ℕ) → list_all p xs ≡ true → p y ≡ false → prefix_len p (xs ++ y ∷ more) ≡ length xs
run_before p [] y more all stop = ap (λ t. cond t (1 + prefix_len p more) 0) stop
run_before p (x ∷ xs) y more all stop =
    let both = and_both (p x) (list_all p xs) all in
    ap (λ t. cond t (1 + prefix_len p (xs ++ y ∷ more)) 0) both.0 ∙ ap (λ n. 1 + n) (run_before p xs y more both.1 stop) ∙ omega arith
  where
    and_both : (x y : Bool) → (x && y) ≡ true → (x ≡ true) × (y ≡ true)
    and_both true y e = (refl, e)
    and_both false y e = absurd cc

pub letter_starts : (b : ℕ) → is_letter b ≡ true → start_of b ≡ start.Letter
unfolding start_of
letter_starts b e =
    let line : is_line_end b ≡ false = grind (arith, nat_tests) in
    let blank : is_inner_blank b ≡ false = grind (arith, nat_tests) in
    rw (line, blank, e) refl

pub identifier_all : (b : ℕ) (bs : List ℕ) → IsIdentifier (b ∷ bs) → list_all is_name_byte (b ∷ bs) ≡ true
identifier_all b bs h = let first : is_name_byte b ≡ true = or_left (is_letter b) (is_digit b) h.0 in ap (λ t. t && list_all is_name_byte bs) first ∙ h.1
  where
    or_left : (x y : Bool) → x ≡ true → (x || y) ≡ true
    or_left true y e = refl
    or_left false y e = absurd cc

name_read : (name : List ℕ) → IsProper (kind.Name name) → IsRead (kind.Name name)
unfolding lexeme_of identifier_at
name_read [] h at more = absurd h.0
name_read (b ∷ bs) h at more =
    let name = b ∷ bs in
    let text = name ++ 32 ∷ more in
    let len : prefix_len is_name_byte text ≡ length name = run_before is_name_byte name 32 more (identifier_all b bs h.0) refl in
    let front : take (length name) text ≡ name = take_at name (32 ∷ more) (length name) refl in
    let short : ltb most_name_bytes (length name) ≡ false = le-ltb most_name_bytes (length name) h.1 in
    ap (λ s. lexeme_of s at text) (letter_starts b h.0.0)
    ∙ ap (λ n. cond (ltb most_name_bytes n) (Err (fault.LongName at)) (Ok (lexeme.Token (identifier_kind_of (take n text) (keyword_of (take n text))) n))) len
    ∙ ap (λ t. cond t (Err (fault.LongName at)) (Ok (lexeme.Token (identifier_kind_of (take (length name) text) (keyword_of (take (length name) text))) (length name)))) short
    ∙ ap (λ (t : List ℕ). Ok (lexeme.Token (identifier_kind_of t (keyword_of t)) (length name))) front
    ∙ ap (λ o. Ok (lexeme.Token (identifier_kind_of name o) (length name))) h.2

-- ---- numbers

pub all_append : (p : ℕ → Bool) (xs ys : List ℕ) → list_all p xs ≡ true → list_all p ys ≡ true → list_all p (xs ++ ys) ≡ true
all_append p [] ys h k = k
all_append p (x ∷ xs) ys h k =
    let both = and_both (p x) (list_all p xs) h in
    ap (λ t. t && list_all p (xs ++ ys)) both.0 ∙ all_append p xs ys both.1 k
  where
    and_both : (x y : Bool) → (x && y) ≡ true → (x ≡ true) × (y ≡ true)
    and_both true y e = (refl, e)
    and_both false y e = absurd cc

digit_of : (r : ℕ) → r < 8 → is_digit (r + 48) ≡ true
digit_of r h = grind (arith, nat_tests)

value_of : (r : ℕ) → r < 8 → digit_value (r + 48) ≡ r
value_of r h =
    let digit = digit_of r h in
    let less : r + 48 - 48 ≡ r = omega arith in
    rw digit less

octal_digit : (r : ℕ) → r < 8 → is_digit_in 8 (r + 48) ≡ true
octal_digit r h =
    let digit = digit_of r h in
    let small : ltb (digit_value (r + 48)) 8 ≡ true = rw (value_of r h) (grind (arith, nat_tests)) in
    rw (small, digit) refl

octal_all : (n value : ℕ) → list_all (is_digit_in 8) (octal n value) ≡ true
octal_all zero value = refl
octal_all (suc n) value =
    all_append (is_digit_in 8) (octal n (value / 8)) ((value % 8 + 48) ∷ []) (octal_all n (value / 8)) (ap (λ t. t && true) (octal_digit (value % 8) (omega arith)))

-- what n octal digits stay below
abbrev limit : ℕ → ℕ
limit zero = 1
limit (suc n) = 8 * limit n

octal_value : (n value : ℕ) → value < limit n → digits_value 8 (octal n value) ≡ value
octal_value zero value h = omega arith
octal_value (suc n) value h =
    let front = octal_value n (value / 8) (omega arith) in
    let last = value_of (value % 8) (omega arith) in
    fold_push (λ v d. v * 8 + digit_value d) 0 (octal n (value / 8)) (value % 8 + 48) ∙ ap (λ v. v * 8 + digit_value (value % 8 + 48)) front ∙ ap (λ d. value / 8 * 8 + d) last ∙ omega arith

octal_bytes : (n value : ℕ) → list_all is_number_byte (octal n value) ≡ true
octal_bytes zero value = refl
octal_bytes (suc n) value =
    all_append is_number_byte (octal n (value / 8)) ((value % 8 + 48) ∷ []) (octal_bytes n (value / 8)) (ap (λ t. t && true) (digit_goes_on (value % 8 + 48) (digit_of (value % 8) (omega arith))))

pub run_whole : (p : ℕ → Bool) (xs : List ℕ) → list_all p xs ≡ true → prefix_len p xs ≡ length xs
run_whole p [] all = refl
run_whole p (x ∷ xs) all =
    let both = and_both (p x) (list_all p xs) all in
    ap (λ t. cond t (1 + prefix_len p xs) 0) both.0 ∙ ap (λ n. 1 + n) (run_whole p xs both.1) ∙ omega arith
  where
    and_both : (x y : Bool) → (x && y) ≡ true → (x ≡ true) × (y ≡ true)
    and_both true y e = (refl, e)
    and_both false y e = absurd cc

-- the suffix that is written
abbrev suffix_of : Bool → List ℕ
suffix_of unsigned = cond unsigned (117 ∷ []) []

typed_read : (at value : ℕ) (unsigned : Bool) → IsProper (kind.Number value unsigned) → typed 8 at value unsigned ≡ Ok (kind.Number value unsigned)
typed_read at value true h =
    let fits : ltb 4294967295 value ≡ false = le-ltb 4294967295 value h.0 in
    ap (λ t. cond (t || false) (Err (fault.TooWide at)) (Ok (kind.Number value true))) fits
typed_read at value false h =
    let fits : ltb 4294967295 value ≡ false = le-ltb 4294967295 value h.0 in
    let signed : ltb 2147483647 value ≡ false = le-ltb 2147483647 value (h.1 refl) in
    ap (λ t. cond (t || false) (Err (fault.TooWide at)) (Ok (kind.Number value (ltb 2147483647 value)))) fits ∙ ap (λ t. Ok (kind.Number value t)) signed

suffix_read : (unsigned : Bool) → suffix (suffix_of unsigned) ≡ Some unsigned
suffix_read true = refl
suffix_read false = refl

digits_len : (ds : List ℕ) (unsigned : Bool) → list_all (is_digit_in 8) ds ≡ true → prefix_len (is_digit_in 8) (ds ++ suffix_of unsigned) ≡ length ds
digits_len ds true all = run_before (is_digit_in 8) ds 117 [] all refl
digits_len ds false all = ap (prefix_len (is_digit_in 8)) (append-nil ds) ∙ run_whole (is_digit_in 8) ds all

digits_read : (at value : ℕ) (unsigned : Bool) (ds : List ℕ) → list_all (is_digit_in 8) ds ≡ true → eqb (length ds) 0 ≡ false → digits_value 8 ds ≡ value → IsProper (kind.Number value unsigned) →
    digits_at 8 at (ds ++ suffix_of unsigned) ≡ Ok (kind.Number value unsigned)
unfolding digits_at
digits_read at value unsigned ds all some is h =
    let run = ds ++ suffix_of unsigned in
    let front : take (length ds) run ≡ ds = take_at ds (suffix_of unsigned) (length ds) refl in
    let back : drop (length ds) run ≡ suffix_of unsigned = drop_at ds (suffix_of unsigned) (length ds) refl in
    ap (λ n. cond (eqb n 0) (Err (fault.BadNumber at)) (ok_or (suffix (drop n run)) (fault.BadNumber at) >>= λ u. typed 8 at (digits_value 8 (take n run)) u)) (digits_len ds unsigned all)
    ∙ ap (λ t. cond t (Err (fault.BadNumber at)) (ok_or (suffix (drop (length ds) run)) (fault.BadNumber at) >>= λ u. typed 8 at (digits_value 8 (take (length ds) run)) u)) some
    ∙ ap (λ (t : List ℕ). ok_or (suffix t) (fault.BadNumber at) >>= λ u. typed 8 at (digits_value 8 (take (length ds) run)) u) back
    ∙ ap (λ (t : List ℕ). ok_or (suffix (suffix_of unsigned)) (fault.BadNumber at) >>= λ u. typed 8 at (digits_value 8 t) u) front
    ∙ ap (λ o. ok_or o (fault.BadNumber at) >>= λ u. typed 8 at (digits_value 8 ds) u) (suffix_read unsigned)
    ∙ ap (λ v. typed 8 at v unsigned) is
    ∙ typed_read at value unsigned h

constant_read : (at : ℕ) (rest : List ℕ) → constant_at at (48 ∷ 48 ∷ rest) ≡ digits_at 8 at (48 ∷ 48 ∷ rest)
unfolding constant_at
constant_read at rest = refl

suffix_bytes : (unsigned : Bool) → list_all is_number_byte (suffix_of unsigned) ≡ true
suffix_bytes true = refl
suffix_bytes false = refl

number_read : (value : ℕ) (unsigned : Bool) → IsProper (kind.Number value unsigned) → IsRead (kind.Number value unsigned)
unfolding lexeme_of start_of number_at
number_read value unsigned h at more =
    let ds : List ℕ = 48 ∷ 48 ∷ octal 11 value in
    let run : List ℕ = ds ++ suffix_of unsigned in
    let text : List ℕ = run ++ 32 ∷ more in
    let bytes : list_all is_number_byte run ≡ true = all_append is_number_byte ds (suffix_of unsigned) (octal_bytes 11 value) (suffix_bytes unsigned) in
    let len : prefix_len is_number_byte text ≡ length run = run_before is_number_byte run 32 more bytes refl in
    let front : take (length run) text ≡ run = take_at run (32 ∷ more) (length run) refl in
    let below : value < limit 11 = by_bound h.0 in
    let is : digits_value 8 ds ≡ value = octal_value 11 value below in
    let some : eqb (length ds) 0 ≡ false = refl in
    ap (λ n. constant_at at (take n text) >>= λ k. Ok (lexeme.Token k n)) len
    ∙ ap (λ (t : List ℕ). constant_at at t >>= λ k. Ok (lexeme.Token k (length run))) front
    ∙ ap (λ r. r >>= λ k. Ok (lexeme.Token k (length run))) (constant_read at (octal 11 value ++ suffix_of unsigned) ∙ digits_read at value unsigned ds (octal_all 11 value) some is h)
  where
    by_bound : value ≤ 4294967295 → value < limit 11
    by_bound le = omega arith

-- ---- characters and string literals

is_escaped_quote : (c quote : ℕ) → is_escaped quote ≡ true → is_escaped c ≡ false → eqb c quote ≡ false
is_escaped_quote c quote q e = grind (arith, nat_tests)

plain_slash : (c : ℕ) → is_escaped c ≡ false → eqb c 92 ≡ false
plain_slash c e = grind (arith, nat_tests)

-- the bytes of the first character, and those of the others
abbrev first_escape : Bool → Bool → ℕ → List ℕ → List ℕ
first_escape line special c rest = cond line (92 ∷ 110 ∷ rest) (cond special (92 ∷ c ∷ rest) (c ∷ rest))

closing_first : (quote at c : ℕ) (rest more : List ℕ) (line special : Bool) → eqb 92 quote ≡ false → is_escaped quote ≡ true → eqb c 10 ≡ line → is_escaped c ≡ special → ((i : ℕ) →
    closing_from quote false i (rest ++ quote ∷ more) ≡ Some (i + length rest)) →
    closing_from quote false at (first_escape line special c rest ++ quote ∷ more) ≡ Some (at + length (first_escape line special c rest))
closing_first quote at c rest more true special slash known is sp ih =
    let size : at + 1 + 1 + length rest ≡ at + length (92 ∷ 110 ∷ rest) = omega arith in
    ap (λ t. cond t (Some at) (closing_from quote true (at + 1) (110 ∷ (rest ++ quote ∷ more)))) slash ∙ ih (at + 1 + 1) ∙ ap Some size
closing_first quote at c rest more false true slash known is sp ih =
    let size : at + 1 + 1 + length rest ≡ at + length (92 ∷ c ∷ rest) = omega arith in
    ap (λ t. cond t (Some at) (closing_from quote true (at + 1) (c ∷ (rest ++ quote ∷ more)))) slash ∙ ap (λ t. cond t None (closing_from quote false (at + 1 + 1) (rest ++ quote ∷ more))) is
    ∙ ih (at + 1 + 1) ∙ ap Some size
closing_first quote at c rest more false false slash known is sp ih =
    let size : at + 1 + length rest ≡ at + length (c ∷ rest) = omega arith in
    let tail : List ℕ = rest ++ quote ∷ more in
    ap (λ t. cond t None (cond (eqb c quote) (Some at) (closing_from quote (eqb c 92) (at + 1) tail))) is
    ∙ ap (λ t. cond t (Some at) (closing_from quote (eqb c 92) (at + 1) tail)) (is_escaped_quote c quote known sp) ∙ ap (λ t. closing_from quote t (at + 1) tail) (plain_slash c sp)
    ∙ ih (at + 1) ∙ ap Some size

closing_escapes : (quote at : ℕ) (cs more : List ℕ) → eqb 92 quote ≡ false → is_escaped quote ≡ true → eqb quote 10 ≡ false →
    closing_from quote false at (escapes cs ++ quote ∷ more) ≡ Some (at + length (escapes cs))
closing_escapes quote at [] more slash known no_end =
    let same : eqb quote quote ≡ true = grind (arith, nat_tests) in
    let size : at ≡ at + 0 = omega arith in
    ap (λ t. cond t None (cond (eqb quote quote) (Some at) (closing_from quote (eqb quote 92) (at + 1) more))) no_end
    ∙ ap (λ t. cond t (Some at) (closing_from quote (eqb quote 92) (at + 1) more)) same ∙ ap Some size
closing_escapes quote at (c ∷ cs) more slash known no_end =
    closing_first quote at c (escapes cs) more (eqb c 10) (is_escaped c) slash known refl refl (λ i. closing_escapes quote i cs more slash known no_end)

special_is : (c : ℕ) → is_escaped c ≡ true → (c ≡ 39) ⊎ ((c ≡ 34) ⊎ (c ≡ 92))
special_is c e = by_test (eqb c 39) (eqb c 34) refl refl e
  where
    by_test : (s t : Bool) → eqb c 39 ≡ s → eqb c 34 ≡ t → (s || t || eqb c 92) ≡ true → (c ≡ 39) ⊎ ((c ≡ 34) ⊎ (c ≡ 92))
    by_test true t is jt f = inl (grind (arith, nat_tests))
    by_test false true is jt f = inr (inl (grind (arith, nat_tests)))
    by_test false false is jt f = inr (inr (grind (arith, nat_tests)))

special_read : (c : ℕ) (rest : List ℕ) → is_escaped c ≡ true → character_at (92 ∷ c ∷ rest) ≡ Some (c, 2)
unfolding character_at escape_at simple_escape
special_read c rest e =
    elim (special_is c e) [
      | inl is ↦ rw is refl
      | inr (inl is) ↦ rw is refl
      | inr (inr is) ↦ rw is refl
    ]

line_read : (rest : List ℕ) → character_at (92 ∷ 110 ∷ rest) ≡ Some (10, 2)
unfolding character_at escape_at simple_escape
line_read rest = refl

plain_read : (c : ℕ) (rest : List ℕ) → is_escaped c ≡ false → character_at (c ∷ rest) ≡ Some (c, 1)
unfolding character_at
plain_read c rest e = rw (plain_slash c e) refl

characters_first : (c : ℕ) (cs rest : List ℕ) (line special : Bool) → eqb c 10 ≡ line → is_escaped c ≡ special → characters 0 rest ≡ Some cs →
    characters 0 (first_escape line special c rest) ≡ Some (c ∷ cs)
characters_first c cs rest true special is sp ih =
    let same : 10 ≡ c = grind (arith, nat_tests) in
    ap (λ o. option_and_then (λ d. with_first d.0 (characters (d.1 - 1) (110 ∷ rest))) o) (line_read rest) ∙ ap (with_first 10) ih ∙ ap (λ x. Some (x ∷ cs)) same
characters_first c cs rest false true is sp ih =
    ap (λ o. option_and_then (λ d. with_first d.0 (characters (d.1 - 1) (c ∷ rest))) o) (special_read c rest sp) ∙ ap (with_first c) ih
characters_first c cs rest false false is sp ih =
    ap (λ o. option_and_then (λ d. with_first d.0 (characters (d.1 - 1) rest)) o) (plain_read c rest sp) ∙ ap (with_first c) ih

characters_escapes : (cs : List ℕ) → characters 0 (escapes cs) ≡ Some cs
characters_escapes [] = refl
characters_escapes (c ∷ cs) = characters_first c cs (escapes cs) (eqb c 10) (is_escaped c) refl refl (characters_escapes cs)

-- the text after the opening quote
after_quote : (quote : ℕ) (cs more : List ℕ) → (escapes cs ++ quote ∷ []) ++ 32 ∷ more ≡ escapes cs ++ quote ∷ 32 ∷ more
after_quote quote cs more = append_assoc (escapes cs) (quote ∷ []) (32 ∷ more)

quoted_len : (quote : ℕ) (cs : List ℕ) → length (escapes cs) + 2 ≡ length (quoted quote cs)
quoted_len quote cs = omega (arith, length-append (escapes cs) (quote ∷ []))

char_read : (c : ℕ) → IsRead (kind.Char c)
unfolding lexeme_of start_of char_at
char_read c at more =
    let inner = escapes (c ∷ []) in
    let text : List ℕ = inner ++ 39 ∷ 32 ∷ more in
    let closed : closing_from 39 false 0 text ≡ Some (length inner) = closing_escapes 39 0 (c ∷ []) (32 ∷ more) refl refl refl ∙ ap Some (zero-add (length inner)) in
    let front : take (length inner) text ≡ inner = take_at inner (39 ∷ 32 ∷ more) (length inner) refl in
    let made : ℕ → Result Lexeme LexFault = λ n. ok_or (option_and_then only (characters 0 (take n text))) (fault.BadText at) >>= λ d. Ok (lexeme.Token (kind.Char d) (n + 2)) in
    ap (λ (t : List ℕ). char_at at t) (after_quote 39 (c ∷ []) more)
    ∙ ap (λ o. ok_or o (fault.OpenText at) >>= made) closed
    ∙ ap (λ (t : List ℕ). ok_or (option_and_then only (characters 0 t)) (fault.BadText at) >>= λ d. Ok (lexeme.Token (kind.Char d) (length inner + 2))) front
    ∙ ap (λ o. ok_or (option_and_then only o) (fault.BadText at) >>= λ d. Ok (lexeme.Token (kind.Char d) (length inner + 2))) (characters_escapes (c ∷ []))
    ∙ ap (λ n. Ok (lexeme.Token (kind.Char c) n)) (quoted_len 39 (c ∷ []))

string_read : (cs : List ℕ) → IsRead (kind.Text cs)
unfolding lexeme_of start_of string_at
string_read cs at more =
    let inner = escapes cs in
    let text : List ℕ = inner ++ 34 ∷ 32 ∷ more in
    let closed : closing_from 34 false 0 text ≡ Some (length inner) = closing_escapes 34 0 cs (32 ∷ more) refl refl refl ∙ ap Some (zero-add (length inner)) in
    let front : take (length inner) text ≡ inner = take_at inner (34 ∷ 32 ∷ more) (length inner) refl in
    let made : ℕ → Result Lexeme LexFault = λ n. ok_or (characters 0 (take n text)) (fault.BadText at) >>= λ d. Ok (lexeme.Token (kind.Text d) (n + 2)) in
    ap (λ (t : List ℕ). string_at at t) (after_quote 34 cs more)
    ∙ ap (λ o. ok_or o (fault.OpenText at) >>= made) closed
    ∙ ap (λ (t : List ℕ). ok_or (characters 0 t) (fault.BadText at) >>= λ d. Ok (lexeme.Token (kind.Text d) (length inner + 2))) front
    ∙ ap (λ o. ok_or o (fault.BadText at) >>= λ d. Ok (lexeme.Token (kind.Text d) (length inner + 2))) (characters_escapes cs)
    ∙ ap (λ n. Ok (lexeme.Token (kind.Text cs) n)) (quoted_len 34 cs)

pub kind_read : (k : TokenKind) → IsProper k → IsRead k
kind_read (kind.Name name) h = name_read name h
kind_read (kind.Keyword k) h = keyword_read k
kind_read (kind.Number value unsigned) h = number_read value unsigned h
kind_read (kind.Char c) h = char_read c
kind_read (kind.Text cs) h = string_read cs
kind_read (kind.Punct p) h = punct_read p
