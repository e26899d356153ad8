-- The tables of keywords and punctuators: each stands in its list, and longer punctuators first.
use Rattle.std.proofs.Common.{◌≡◌, ℕ, zero, suc, ◌<◌, ◌≤◌, Bool, cond, filter, true, false, not, eqb, leb, List, [], ◌∷◌, length, take, Option, Some, None, ◌&&◌, refl, sym, ap, ◌∙◌, arith, inl, inr}
use Rattle.std.specs.Prelude.{◌==◌, nat_eq, slice_index, find}
use Rattle.std.specs.List.{starts_with, list_all}
use Rattle.std.specs.Str.{bytes_eq}
use Rattle.std.proofs.lemmas.Bool.{leb-true, eqb-true, and_parts, both_ways, false_from_ne_true}
use Rattle.std.proofs.lemmas.Slice.Eq.{bytes_eq-Decides}
use Rattle.c_lex.specs.Classes.{is_letter, is_digit}
use Rattle.c_lex.specs.Keywords.{keyword_spelling, keyword_of, all_keywords}
use Rattle.c_lex.specs.Punctuators.{punct_spelling, punct_at, all_puncts, puncts_beginning_with}
use Rattle.c_lex.specs.declared.keyword.Keyword.{Keyword}
use Rattle.c_lex.specs.declared.keyword.Keyword.TheVariants as keyword
use Rattle.c_lex.specs.declared.punct.Punct.{Punct}
use Rattle.c_lex.specs.declared.punct.Punct.TheVariants as mark
use Rattle.c_lex.proofs.Lengths.{chosen, find_passes, punct_some}

-- the element at an index
abbrev pub nth : {X : Type 0} → List X → ℕ → Option X
nth [] i = None
nth (x ∷ xs) zero = Some x
nth (x ∷ xs) (suc i) = nth xs i

-- where a keyword stands in the list
abbrev keyword_index : Keyword → ℕ
keyword_index keyword.Break = 0
keyword_index keyword.Case = 1
keyword_index keyword.Char = 2
keyword_index keyword.Const = 3
keyword_index keyword.Continue = 4
keyword_index keyword.Default = 5
keyword_index keyword.Do = 6
keyword_index keyword.Else = 7
keyword_index keyword.For = 8
keyword_index keyword.If = 9
keyword_index keyword.Int = 10
keyword_index keyword.Return = 11
keyword_index keyword.Short = 12
keyword_index keyword.Signed = 13
keyword_index keyword.Sizeof = 14
keyword_index keyword.Static = 15
keyword_index keyword.Struct = 16
keyword_index keyword.Switch = 17
keyword_index keyword.Unsigned = 18
keyword_index keyword.Void = 19
keyword_index keyword.While = 20
keyword_index keyword.Auto = 21
keyword_index keyword.Double = 22
keyword_index keyword.Enum = 23
keyword_index keyword.Extern = 24
keyword_index keyword.Float = 25
keyword_index keyword.Goto = 26
keyword_index keyword.Inline = 27
keyword_index keyword.Long = 28
keyword_index keyword.Register = 29
keyword_index keyword.Restrict = 30
keyword_index keyword.Typedef = 31
keyword_index keyword.Union = 32
keyword_index keyword.Volatile = 33
keyword_index keyword.Alignas = 34
keyword_index keyword.Alignof = 35
keyword_index keyword.Atomic = 36
keyword_index keyword.Bool = 37
keyword_index keyword.Complex = 38
keyword_index keyword.Generic = 39
keyword_index keyword.Imaginary = 40
keyword_index keyword.Noreturn = 41
keyword_index keyword.StaticAssert = 42
keyword_index keyword.ThreadLocal = 43

keyword_stands : (k : Keyword) → nth all_keywords (keyword_index k) ≡ Some k
keyword_stands keyword.Break = refl
keyword_stands keyword.Case = refl
keyword_stands keyword.Char = refl
keyword_stands keyword.Const = refl
keyword_stands keyword.Continue = refl
keyword_stands keyword.Default = refl
keyword_stands keyword.Do = refl
keyword_stands keyword.Else = refl
keyword_stands keyword.For = refl
keyword_stands keyword.If = refl
keyword_stands keyword.Int = refl
keyword_stands keyword.Return = refl
keyword_stands keyword.Short = refl
keyword_stands keyword.Signed = refl
keyword_stands keyword.Sizeof = refl
keyword_stands keyword.Static = refl
keyword_stands keyword.Struct = refl
keyword_stands keyword.Switch = refl
keyword_stands keyword.Unsigned = refl
keyword_stands keyword.Void = refl
keyword_stands keyword.While = refl
keyword_stands keyword.Auto = refl
keyword_stands keyword.Double = refl
keyword_stands keyword.Enum = refl
keyword_stands keyword.Extern = refl
keyword_stands keyword.Float = refl
keyword_stands keyword.Goto = refl
keyword_stands keyword.Inline = refl
keyword_stands keyword.Long = refl
keyword_stands keyword.Register = refl
keyword_stands keyword.Restrict = refl
keyword_stands keyword.Typedef = refl
keyword_stands keyword.Union = refl
keyword_stands keyword.Volatile = refl
keyword_stands keyword.Alignas = refl
keyword_stands keyword.Alignof = refl
keyword_stands keyword.Atomic = refl
keyword_stands keyword.Bool = refl
keyword_stands keyword.Complex = refl
keyword_stands keyword.Generic = refl
keyword_stands keyword.Imaginary = refl
keyword_stands keyword.Noreturn = refl
keyword_stands keyword.StaticAssert = refl
keyword_stands keyword.ThreadLocal = refl

abbrev punct_index : Punct → ℕ
punct_index mark.ShiftLeftEqual = 0
punct_index mark.ShiftRightEqual = 1
punct_index mark.Arrow = 2
punct_index mark.PlusPlus = 3
punct_index mark.MinusMinus = 4
punct_index mark.ShiftLeft = 5
punct_index mark.ShiftRight = 6
punct_index mark.LessEqual = 7
punct_index mark.GreaterEqual = 8
punct_index mark.EqualEqual = 9
punct_index mark.BangEqual = 10
punct_index mark.AmpAmp = 11
punct_index mark.PipePipe = 12
punct_index mark.StarEqual = 13
punct_index mark.SlashEqual = 14
punct_index mark.PercentEqual = 15
punct_index mark.PlusEqual = 16
punct_index mark.MinusEqual = 17
punct_index mark.AmpEqual = 18
punct_index mark.CaretEqual = 19
punct_index mark.PipeEqual = 20
punct_index mark.LParen = 21
punct_index mark.RParen = 22
punct_index mark.LBracket = 23
punct_index mark.RBracket = 24
punct_index mark.LBrace = 25
punct_index mark.RBrace = 26
punct_index mark.Semicolon = 27
punct_index mark.Comma = 28
punct_index mark.Dot = 29
punct_index mark.Amp = 30
punct_index mark.Star = 31
punct_index mark.Plus = 32
punct_index mark.Minus = 33
punct_index mark.Tilde = 34
punct_index mark.Bang = 35
punct_index mark.Slash = 36
punct_index mark.Percent = 37
punct_index mark.Less = 38
punct_index mark.Greater = 39
punct_index mark.Caret = 40
punct_index mark.Pipe = 41
punct_index mark.Question = 42
punct_index mark.Colon = 43
punct_index mark.Equal = 44

punct_stands : (p : Punct) → nth all_puncts (punct_index p) ≡ Some p
punct_stands mark.LParen = refl
punct_stands mark.RParen = refl
punct_stands mark.LBracket = refl
punct_stands mark.RBracket = refl
punct_stands mark.LBrace = refl
punct_stands mark.RBrace = refl
punct_stands mark.Semicolon = refl
punct_stands mark.Comma = refl
punct_stands mark.Dot = refl
punct_stands mark.Arrow = refl
punct_stands mark.PlusPlus = refl
punct_stands mark.MinusMinus = refl
punct_stands mark.Amp = refl
punct_stands mark.Star = refl
punct_stands mark.Plus = refl
punct_stands mark.Minus = refl
punct_stands mark.Tilde = refl
punct_stands mark.Bang = refl
punct_stands mark.Slash = refl
punct_stands mark.Percent = refl
punct_stands mark.ShiftLeft = refl
punct_stands mark.ShiftRight = refl
punct_stands mark.Less = refl
punct_stands mark.Greater = refl
punct_stands mark.LessEqual = refl
punct_stands mark.GreaterEqual = refl
punct_stands mark.EqualEqual = refl
punct_stands mark.BangEqual = refl
punct_stands mark.Caret = refl
punct_stands mark.Pipe = refl
punct_stands mark.AmpAmp = refl
punct_stands mark.PipePipe = refl
punct_stands mark.Question = refl
punct_stands mark.Colon = refl
punct_stands mark.Equal = refl
punct_stands mark.StarEqual = refl
punct_stands mark.SlashEqual = refl
punct_stands mark.PercentEqual = refl
punct_stands mark.PlusEqual = refl
punct_stands mark.MinusEqual = refl
punct_stands mark.ShiftLeftEqual = refl
punct_stands mark.ShiftRightEqual = refl
punct_stands mark.AmpEqual = refl
punct_stands mark.CaretEqual = refl
punct_stands mark.PipeEqual = refl

all_nth : {X : Type 0} (test : X → Bool) (xs : List X) (i : ℕ) (x : X) → list_all test xs ≡ true → nth xs i ≡ Some x → test x ≡ true
all_nth test [] i x e at = absurd cc
all_nth test (y ∷ ys) zero x e at = let same : y ≡ x = cc in ap test (sym same) ∙ (and_parts (test y) (list_all test ys) e).0
all_nth test (y ∷ ys) (suc i) x e at = all_nth test ys i x (and_parts (test y) (list_all test ys) e).1 at

-- A test of every punctuator or keyword is one of the list.
pub each_punct : (test : Punct → Bool) → list_all test all_puncts ≡ true → (p : Punct) → test p ≡ true
each_punct test all p = all_nth test all_puncts (punct_index p) p all (punct_stands p)

pub each_keyword : (test : Keyword → Bool) → list_all test all_keywords ≡ true → (k : Keyword) → test k ≡ true
each_keyword test all k = all_nth test all_keywords (keyword_index k) k all (keyword_stands k)

-- ---- each is found by its spelling

has_index : {X : Type 0} → (X → ℕ) → Option X → ℕ → Bool
has_index index None i = false
has_index index (Some x) i = eqb (index x) i

nth_same : {X : Type 0} (index : X → ℕ) (xs : List X) (o : Option X) (x : X) → ((y : X) → nth xs (index y) ≡ Some y) → has_index index o (index x) ≡ true → o ≡ Some x
unfolding has_index
nth_same index xs None x stands e = absurd cc
nth_same index xs (Some y) x stands e = sym (stands y) ∙ ap (nth xs) (eqb-true (index y) (index x) e) ∙ stands x

pub punct_found : (p : Punct) → punct_at (punct_spelling p) ≡ Some p
unfolding has_index
punct_found p =
    nth_same punct_index all_puncts (punct_at (punct_spelling p)) p punct_stands (each_punct (λ q. has_index punct_index (punct_at (punct_spelling q)) (punct_index q)) refl p)

pub keyword_found : (k : Keyword) → keyword_of (keyword_spelling k) ≡ Some k
unfolding has_index
keyword_found k =
    nth_same keyword_index all_keywords (keyword_of (keyword_spelling k)) k keyword_stands
    (each_keyword (λ j. has_index keyword_index (keyword_of (keyword_spelling j)) (keyword_index j)) refl k)

none_passes : {X : Type 0} (test : X → Bool) (xs : List X) (i : ℕ) (x : X) → find test xs ≡ None → nth xs i ≡ Some x → test x ≡ false
none_passes test [] i x e at = absurd cc
none_passes test (y ∷ ys) zero x e at =
    elim (chosen (test y) (Some y) (find test ys) None e) [
      | inl (_, f) ↦ absurd cc
      | inr (fails, _) ↦ let same : y ≡ x = cc in ap test (sym same) ∙ fails
    ]
none_passes test (y ∷ ys) (suc i) x e at =
    elim (chosen (test y) (Some y) (find test ys) None e) [
      | inl (_, f) ↦ absurd cc
      | inr (_, f) ↦ none_passes test ys i x f at
    ]

pub keyword_is : (bytes : List ℕ) (k : Keyword) → keyword_of bytes ≡ Some k → keyword_spelling k ≡ bytes
keyword_is bytes k e = (bytes_eq-Decides (keyword_spelling k) bytes).0 (find_passes (λ w. bytes_eq (keyword_spelling w) bytes) all_keywords k e)

pub keyword_none : (bytes : List ℕ) (k : Keyword) → keyword_of bytes ≡ None → keyword_spelling k ≡ bytes → ⊥
keyword_none bytes k e same =
    let fails = none_passes (λ w. bytes_eq (keyword_spelling w) bytes) all_keywords (keyword_index k) k e (keyword_stands k) in
    let passes = (bytes_eq-Decides (keyword_spelling k) bytes).1 same in
    cc

pub no_keyword : (bytes : List ℕ) (o : Option Keyword) → keyword_of bytes ≡ o → ((k : Keyword) → keyword_spelling k ≡ bytes → ⊥) → o ≡ None
no_keyword bytes None is none = refl
no_keyword bytes (Some k) is none = absurd (none k (keyword_is bytes k is))

find_filter : {X : Type 0} (test kept : X → Bool) (xs : List X) → ((x : X) → test x ≡ true → kept x ≡ true) → find test (filter kept xs) ≡ find test xs
find_filter test kept [] all = refl
find_filter test kept (x ∷ xs) all = by_kept (kept x) refl (find_filter test kept xs all)
  where
    by_kept : (k : Bool) → kept x ≡ k → find test (filter kept xs) ≡ find test xs → find test (filter kept (x ∷ xs)) ≡ find test (x ∷ xs)
    by_kept true is rest = ap (λ k. find test (cond k (x ∷ filter kept xs) (filter kept xs))) is ∙ ap (λ o. cond (test x) (Some x) o) rest
    by_kept false is rest =
        let fails : test x ≡ false = false_from_ne_true (test x) (λ passes. both_ways (kept x) is (all x passes)) in
        ap (λ k. find test (cond k (x ∷ filter kept xs) (filter kept xs))) is ∙ rest ∙ sym (ap (λ t. cond t (Some x) (find test xs)) fails)

-- ---- the longest punctuator

abbrev size : Punct → ℕ
size p = length (punct_spelling p)

-- each is at least as long as those after it
abbrev falling : List Punct → Bool
falling [] = true
falling (p ∷ ps) = list_all (λ q. leb (size q) (size p)) ps && falling ps

puncts_fall : falling all_puncts ≡ true
puncts_fall = refl

longest_of : (test : Punct → Bool) (ps : List Punct) (i : ℕ) (p q : Punct) → falling ps ≡ true → find test ps ≡ Some p → nth ps i ≡ Some q → test q ≡ true → size q ≤ size p
longest_of test [] i p q fall e at passes = absurd cc
longest_of test (x ∷ ps) zero p q fall e at passes =
    let same : x ≡ q = cc in
    elim (chosen (test x) (Some x) (find test ps) (Some p) e) [
      | inl (_, f) ↦ let found : x ≡ p = cc in let sizes : size q ≡ size p = ap size (sym same ∙ found) in omega arith
      | inr (fails, _) ↦ let tested : test x ≡ test q = ap test same in absurd cc
    ]
longest_of test (x ∷ ps) (suc i) p q fall e at passes =
    let both = and_parts (list_all (λ r. leb (size r) (size x)) ps) (falling ps) fall in
    elim (chosen (test x) (Some x) (find test ps) (Some p) e) [
      | inl (_, f) ↦
          let found : x ≡ p = cc in
          let less : size q ≤ size x = leb-true (size q) (size x) (all_nth (λ r. leb (size r) (size x)) ps i q both.0 at) in
          let sizes : size x ≡ size p = ap size found in
          omega arith
      | inr (_, f) ↦ longest_of test ps i p q both.1 f at passes
    ]

pub punct_begins : (text : List ℕ) (p : Punct) → punct_at text ≡ Some p → take (length (punct_spelling p)) text ≡ punct_spelling p
punct_begins text p e =
    sym ((bytes_eq-Decides (punct_spelling p) (take (length (punct_spelling p)) text)).0 (find_passes (λ q. starts_with nat_eq text (punct_spelling q)) all_puncts p e))

pub punct_longest : (text : List ℕ) (p q : Punct) → punct_at text ≡ Some p → take (length (punct_spelling q)) text ≡ punct_spelling q → length (punct_spelling q) ≤ length (punct_spelling p)
punct_longest text p q e begins =
    longest_of (λ r. starts_with nat_eq text (punct_spelling r)) all_puncts (punct_index q) p q puncts_fall e (punct_stands q) ((bytes_eq-Decides (punct_spelling q) (take (length
    (punct_spelling q)) text)).1 (sym begins))

pub punct_none : (text : List ℕ) (q : Punct) → punct_at text ≡ None → take (length (punct_spelling q)) text ≡ punct_spelling q → ⊥
punct_none text q e begins =
    let fails = none_passes (λ r. starts_with nat_eq text (punct_spelling r)) all_puncts (punct_index q) q e (punct_stands q) in
    let passes = (bytes_eq-Decides (punct_spelling q) (take (length (punct_spelling q)) text)).1 (sym begins) in
    cc

-- ---- the first byte of a punctuator

-- begins no name, no number and no quoted sequence
abbrev pub is_mark : ℕ → Bool
is_mark b = not (is_letter b) && (not (is_digit b) && (not (eqb b 39) && not (eqb b 34)))

mark_first : (p : Punct) → is_mark (slice_index (punct_spelling p) 0) ≡ true
mark_first = each_punct (λ q. is_mark (slice_index (punct_spelling q) 0)) refl

pub punct_first : (p : Punct) (b : ℕ) (bs : List ℕ) → punct_spelling p ≡ b ∷ bs → is_mark b ≡ true
punct_first p b bs e = ap (λ (t : List ℕ). is_mark (slice_index t 0)) (sym e) ∙ mark_first p

first_same : (p : Punct) (b : ℕ) (bs : List ℕ) → starts_with nat_eq (b ∷ bs) (punct_spelling p) ≡ true → (slice_index (punct_spelling p) 0 == b) ≡ true
first_same p b bs passes = by_spelling (punct_spelling p) passes (punct_some p)
  where
    by_spelling : (t : List ℕ) → starts_with nat_eq (b ∷ bs) t ≡ true → 0 < length t → (slice_index t 0 == b) ≡ true
    by_spelling [] is some = absurd (omega arith)
    by_spelling (c ∷ cs) is some = (and_parts (nat_eq c b) (starts_with nat_eq bs cs) is).0

-- those that begin with the first byte are enough
pub punct_by_first : (text : List ℕ) (puncts : List Punct) (o : Option Punct) → 1 ≤ length text → puncts ≡ puncts_beginning_with (slice_index text 0) →
    o ≡ find (λ p. starts_with nat_eq text (punct_spelling p)) puncts → o ≡ punct_at text
punct_by_first [] puncts o some are is = absurd (omega arith)
punct_by_first (b ∷ bs) puncts o some are is =
    let test : Punct → Bool = λ p. starts_with nat_eq (b ∷ bs) (punct_spelling p) in
    is ∙ ap (find test) are ∙ find_filter test (λ p. slice_index (punct_spelling p) 0 == b) all_puncts (λ p. first_same p b bs)
