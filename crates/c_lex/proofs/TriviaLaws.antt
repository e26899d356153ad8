-- What the definition passes over is a blank, a comment or an include line.
use Rattle.std.proofs.Common.{◌≡◌, ◌⊎◌, ℕ, zero, suc, ◌+◌, ◌-◌, ◌<◌, ◌≤◌, Bool, true, false, cond, not, List, [], ◌∷◌, ◌++◌, length, take, drop, Option, Some, None, codes, refl, sym, ap, ◌∙◌, subst, arith, inl, inr, append_assoc}
use Rattle.std.specs.Prelude.{nat_eq}
use Rattle.std.specs.Option.{option_and_then, option_map_or}
use Rattle.std.specs.List.{prefix_len, position_or_len, starts_with}
use Rattle.std.specs.Cmp.Lexicographic.{pointwise}
use Rattle.std.proofs.lemmas.Slice.Eq.{bytes_eq-Decides}
use Rattle.std.proofs.lemmas.List.{length-take-le, length-drop, length-append, take-append-drop, take_at, drop_at, take-append-le, drop-append-le}
use Rattle.std.proofs.lemmas.List.Sums.{prefix_len-le-length}
use Rattle.c_lex.specs.Classes.{is_line_end, is_inner_blank}
use Rattle.c_lex.specs.Trivia.{comment_end, include_len, past_include, past, past_blanks, past_header, ends_line}
use Rattle.c_lex.specs.Grammar.{IsBlockComment, IsLineComment, IsIncludeLine}
use Rattle.c_lex.proofs.Lengths.{chosen}
use Rattle.c_lex.proofs.Sorts.{run_all}

-- ---- prefixes

-- a text that begins with a prefix is the prefix and what follows
pub begins : (text prefix : List ℕ) → starts_with nat_eq text prefix ≡ true → text ≡ prefix ++ drop (length prefix) text
begins text prefix e =
    let front : prefix ≡ take (length prefix) text = (bytes_eq-Decides prefix (take (length prefix) text)).0 e in
    sym (take-append-drop (length prefix) text) ∙ ap (λ (t : List ℕ). t ++ drop (length prefix) text) (sym front)

past_is : (prefix text rest : List ℕ) → past prefix text ≡ Some rest → text ≡ prefix ++ rest
past_is prefix text rest e =
    elim (chosen (starts_with nat_eq text prefix) (Some (drop (length prefix) text)) None (Some rest) e) [
      | inl (is, f) ↦ let same : drop (length prefix) text ≡ rest = cc in begins text prefix is ∙ ap (λ (t : List ℕ). prefix ++ t) same
      | inr (_, f) ↦ absurd cc
    ]

header_is : (text rest : List ℕ) → past_header text ≡ Some rest → (header : List ℕ) × (text ≡ header ++ rest) × ((header ≡ codes "<stdio.h>") ⊎ (header ≡ codes "<stdlib.h>"))
header_is text rest e =
    elim (chosen (starts_with nat_eq text (codes "<stdio.h>")) (Some (drop 9 text)) (cond (starts_with nat_eq text (codes "<stdlib.h>")) (Some (drop 10 text)) None) (Some rest) e) [
      | inl (is, f) ↦ let same : drop 9 text ≡ rest = cc in (codes "<stdio.h>", begins text (codes "<stdio.h>") is ∙ ap (λ (t : List ℕ). codes "<stdio.h>" ++ t) same, inl refl)
      | inr (_, f) ↦ elim (chosen (starts_with nat_eq text (codes "<stdlib.h>")) (Some (drop 10 text)) None (Some rest) f) [
        | inl (is, g) ↦ let same : drop 10 text ≡ rest = cc in (codes "<stdlib.h>", begins text (codes "<stdlib.h>") is ∙ ap (λ (t : List ℕ). codes "<stdlib.h>" ++ t) same, inr refl)
        | inr (_, g) ↦ absurd cc
      ]
    ]

-- the blanks at the front of a text
abbrev blanks_of : List ℕ → List ℕ
blanks_of text = take (prefix_len is_inner_blank text) text

blanks_split : (text : List ℕ) → text ≡ blanks_of text ++ past_blanks text
blanks_split text = sym (take-append-drop (prefix_len is_inner_blank text) text)

then_some : {A B : Type 0} (f : A → Option B) (o : Option A) (y : B) → option_and_then f o ≡ Some y → (x : A) × (o ≡ Some x) × (f x ≡ Some y)
then_some f None y e = absurd cc
then_some f (Some x) y e = (x, refl, e)

-- ---- include lines

pub include_line_is : (line rest : List ℕ) → past_include line ≡ Some rest → (bytes : List ℕ) × (line ≡ bytes ++ rest) × IsIncludeLine bytes rest
unfolding past_include
include_line_is line rest e =
    let a = then_some (λ a. option_and_then (λ b. option_and_then (λ c. cond (ends_line (past_blanks c)) (Some (past_blanks c)) None) (past_header (past_blanks b))) (past (codes "include")
    (past_blanks a))) (past (codes "#") (past_blanks line)) rest e in
    let b = then_some (λ b. option_and_then (λ c. cond (ends_line (past_blanks c)) (Some (past_blanks c)) None) (past_header (past_blanks b))) (past (codes "include") (past_blanks a.0)) rest a.2 in
    let c = then_some (λ c. cond (ends_line (past_blanks c)) (Some (past_blanks c)) None) (past_header (past_blanks b.0)) rest b.2 in
    let header = header_is (past_blanks b.0) c.0 c.1 in
    elim (chosen (ends_line (past_blanks c.0)) (Some (past_blanks c.0)) None (Some rest) c.2) [
      | inl (ends, f) ↦
          let same : past_blanks c.0 ≡ rest = cc in
          let after = blanks_of c.0 in
          let d : c.0 ≡ after ++ rest = blanks_split c.0 ∙ ap (λ (t : List ℕ). after ++ t) same in
          let h : past_blanks b.0 ≡ header.0 ++ (after ++ rest) = header.1 ∙ ap (λ (t : List ℕ). header.0 ++ t) d in
          let w : b.0 ≡ blanks_of b.0 ++ (header.0 ++ (after ++ rest)) = blanks_split b.0 ∙ ap (λ (t : List ℕ). blanks_of b.0 ++ t) h in
          let i : past_blanks a.0 ≡ codes "include" ++ (blanks_of b.0 ++ (header.0 ++ (after ++ rest))) = past_is (codes "include") (past_blanks a.0) b.0 b.1
          ∙ ap (λ (t : List ℕ). codes "include" ++ t) w in
          let g : a.0 ≡ blanks_of a.0 ++ (codes "include" ++ (blanks_of b.0 ++ (header.0 ++ (after ++ rest)))) = blanks_split a.0 ∙ ap (λ (t : List ℕ). blanks_of a.0 ++ t) i in
          let s : past_blanks line ≡ codes "#" ++ (blanks_of a.0 ++ (codes "include" ++ (blanks_of b.0 ++ (header.0 ++ (after ++ rest))))) = past_is (codes "#") (past_blanks line) a.0 a.1
          ∙ ap (λ (t : List ℕ). codes "#" ++ t) g in
          let whole : line ≡ blanks_of line ++ (codes "#" ++ (blanks_of a.0 ++ (codes "include" ++ (blanks_of b.0 ++ (header.0 ++ (after ++ rest)))))) = blanks_split line
          ∙ ap (λ (t : List ℕ). blanks_of line ++ t) s in
          let bytes : List ℕ = blanks_of line ++ (codes "#" ++ (blanks_of a.0 ++ (codes "include" ++ (blanks_of b.0 ++ (header.0 ++ after))))) in (
            bytes,
            whole ∙ regroup (blanks_of line) (codes "#") (blanks_of a.0) (codes "include") (blanks_of b.0) header.0 after rest,
            record {
              before = blanks_of line;
              hash_blanks = blanks_of a.0;
              include_blanks = blanks_of b.0;
              header = header.0;
              after = after;
              spelled = refl;
              header_is = header.2;
              blanks = (run_all is_inner_blank line, run_all is_inner_blank a.0, run_all is_inner_blank b.0, run_all is_inner_blank c.0);
              ends = ap ends_line (sym same) ∙ ends;
            },
          )
      | inr (_, f) ↦ absurd cc
    ]
  where
    regroup : (a b c d e f g r : List ℕ) → a ++ (b ++ (c ++ (d ++ (e ++ (f ++ (g ++ r)))))) ≡ (a ++ (b ++ (c ++ (d ++ (e ++ (f ++ g)))))) ++ r
    regroup a b c d e f g r = simp append_assoc

-- the include line at the front of a text, where there is one
pub include_is : (line : List ℕ) (n : ℕ) → include_len line ≡ n → 0 < n → IsIncludeLine (take n line) (drop n line)
include_is line n is some = by_rest (past_include line) refl is
  where
    by_rest : (o : Option (List ℕ)) → past_include line ≡ o → option_map_or (λ rest. length line - length rest) o 0 ≡ n → IsIncludeLine (take n line) (drop n line)
    by_rest None e size = absurd (omega arith)
    by_rest (Some rest) e size =
        let h = include_line_is line rest e in
        let len : length h.0 ≡ n = omega (arith, ap length h.1, length-append h.0 rest) in
        let front : take n line ≡ h.0 = ap (take n) h.1 ∙ take_at h.0 rest n len in
        let back : drop n line ≡ rest = ap (drop n) h.1 ∙ drop_at h.0 rest n len in
        subst (λ (t : List ℕ). IsIncludeLine t (drop n line)) (sym front) (subst (λ (t : List ℕ). IsIncludeLine h.0 t) (sym back) h.2)

-- ---- line comments

ends_after : (text : List ℕ) → ends_line (drop (position_or_len is_line_end text) text) ≡ true
ends_after [] = refl
ends_after (b ∷ bs) = by_test (is_line_end b) refl (ends_after bs)
  where
    by_test : (t : Bool) → is_line_end b ≡ t → ends_line (drop (position_or_len is_line_end bs) bs) ≡ true → ends_line (drop (position_or_len is_line_end (b ∷ bs)) (b ∷ bs)) ≡ true
    by_test true e ih =
        let n : position_or_len is_line_end (b ∷ bs) ≡ 0 = ap (λ t. cond (not t) (1 + position_or_len is_line_end bs) 0) e in
        ap (λ k. ends_line (drop k (b ∷ bs))) n ∙ e
    by_test false e ih =
        let n : position_or_len is_line_end (b ∷ bs) ≡ suc (position_or_len is_line_end bs) = ap (λ t. cond (not t) (1 + position_or_len is_line_end bs) 0) e ∙ omega arith in
        ap (λ k. ends_line (drop k (b ∷ bs))) n ∙ ih

pub line_comment_is : (text : List ℕ) (n : ℕ) → starts_with nat_eq text (codes "//") ≡ true → position_or_len is_line_end (drop 2 text) + 2 ≡ n → IsLineComment (take n text) (drop n text)
line_comment_is text n starts size =
    let rest = drop 2 text in
    let m = position_or_len is_line_end rest in
    let inner = take m rest in
    let within : m ≤ length rest = prefix_len-le-length (λ b. not (is_line_end b)) rest in
    let whole : text ≡ (codes "//" ++ inner) ++ drop m rest = begins text (codes "//") starts ∙ ap (λ (t : List ℕ). codes "//" ++ t) (sym (take-append-drop m rest)) in
    let len : length (codes "//" ++ inner) ≡ n = omega (arith, length-take-le m rest within) in
    let front : take n text ≡ codes "//" ++ inner = ap (take n) whole ∙ take_at (codes "//" ++ inner) (drop m rest) n len in
    let back : drop n text ≡ drop m rest = ap (drop n) whole ∙ drop_at (codes "//" ++ inner) (drop m rest) n len in
    record {
      inner = inner;
      spelled = front;
      on_line = run_all (λ b. not (is_line_end b)) rest;
      ends = ap ends_line back ∙ ends_after rest;
    }

-- ---- block comments

pub comment_low : (at : ℕ) (text : List ℕ) (n : ℕ) → comment_end at text ≡ Some n → at + 2 ≤ n
comment_low at [] n e = absurd cc
comment_low at (b ∷ bs) n e =
    elim (chosen (starts_with nat_eq (b ∷ bs) (codes "*/")) (Some (at + 2)) (comment_end (at + 1) bs) (Some n) e) [
      | inl (_, f) ↦ let same : at + 2 ≡ n = cc in omega arith
      | inr (_, f) ↦ omega (arith, comment_low (at + 1) bs n f)
    ]

abbrev pub closes : List ℕ → Bool
closes text = starts_with nat_eq text (codes "*/")

-- the first `*/` ends where it was found
pub record IsFirstEnd (k : ℕ) (text : List ℕ) : Type 0 where
  pub here : closes (drop k text) ≡ true
  pub before : (m : ℕ) → m < k → closes (drop m text) ≡ false

first_here : (at k b : ℕ) (bs : List ℕ) → closes (b ∷ bs) ≡ true → Some (at + 2) ≡ Some (at + k + 2) → IsFirstEnd k (b ∷ bs)
first_here at zero b bs is e = record { here = is; before = λ m h. absurd (omega arith) }
first_here at (suc k) b bs is e = let same : at + 2 ≡ at + suc k + 2 = cc in absurd (omega arith)

first_later : (at k b : ℕ) (bs : List ℕ) → closes (b ∷ bs) ≡ false → ((j : ℕ) → comment_end (at + 1) bs ≡ Some (at + 1 + j + 2) → IsFirstEnd j bs) → comment_end (at + 1) bs ≡ Some (at + k + 2) →
    IsFirstEnd k (b ∷ bs)
first_later at zero b bs fails ih e = absurd (omega (arith, comment_low (at + 1) bs (at + 0 + 2) e))
first_later at (suc k) b bs fails ih e =
    let offset : at + suc k + 2 ≡ at + 1 + k + 2 = omega arith in
    let rest = ih k (e ∙ ap Some offset) in
    record { here = rest.here; before = before_by rest.before }
  where
    before_by : ((m : ℕ) → m < k → closes (drop m bs) ≡ false) → (m : ℕ) → m < suc k → closes (drop m (b ∷ bs)) ≡ false
    before_by none zero h = fails
    before_by none (suc m) h = none m (omega arith)

pub comment_first : (at k : ℕ) (text : List ℕ) → comment_end at text ≡ Some (at + k + 2) → IsFirstEnd k text
comment_first at k [] e = absurd cc
comment_first at k (b ∷ bs) e =
    elim (chosen (closes (b ∷ bs)) (Some (at + 2)) (comment_end (at + 1) bs) (Some (at + k + 2)) e) [
      | inl (is, f) ↦ first_here at k b bs is f
      | inr (fails, f) ↦ first_later at k b bs fails (λ j g. comment_first (at + 1) j bs g) f
    ]

pub closes_front : (xs ys : List ℕ) → 2 ≤ length xs → closes (xs ++ ys) ≡ closes xs
closes_front xs ys long = ap (λ (t : List ℕ). pointwise nat_eq (codes "*/") t) (take-append-le 2 xs ys long)

block_by : (text : List ℕ) (n k : ℕ) → starts_with nat_eq text (codes "/*") ≡ true → k + 4 ≡ n → IsFirstEnd k (drop 2 text) → IsBlockComment (take n text)
block_by text n k starts size end =
    let rest = drop 2 text in
    let inner = take k rest in
    let tail = drop 2 (drop k rest) in
    let following : drop k rest ≡ codes "*/" ++ tail = begins (drop k rest) (codes "*/") end.here in
    let two : length (codes "*/" ++ tail) ≡ 2 + length tail = length-append (codes "*/") tail in
    let within : k ≤ length rest = omega (arith, ap length following, length-drop k rest) in
    let len : length inner ≡ k = length-take-le k rest within in
    let split : rest ≡ (inner ++ codes "*/") ++ tail = sym (take-append-drop k rest) ∙ ap (λ (t : List ℕ). inner ++ t) following ∙ sym (append_assoc inner (codes "*/") tail) in
    let whole : text ≡ (codes "/*" ++ (inner ++ codes "*/")) ++ tail = begins text (codes "/*") starts ∙ ap (λ (t : List ℕ). codes "/*" ++ t) split in
    let inner_len : length (inner ++ codes "*/") ≡ k + 2 = omega (arith, length-append inner (codes "*/")) in
    let all : length (codes "/*" ++ (inner ++ codes "*/")) ≡ n = omega arith in
    let front : take n text ≡ codes "/*" ++ (inner ++ codes "*/") = ap (take n) whole ∙ take_at (codes "/*" ++ (inner ++ codes "*/")) tail n all in
    record {
      inner = inner;
      spelled = front;
      first = λ m h.
          let long : m ≤ length (inner ++ codes "*/") = omega arith in
          let rest_is : drop m rest ≡ drop m (inner ++ codes "*/") ++ tail = ap (drop m) split ∙ drop-append-le m (inner ++ codes "*/") tail long in
          let two : 2 ≤ length (drop m (inner ++ codes "*/")) = omega (arith, length-drop m (inner ++ codes "*/")) in
          sym (closes_front (drop m (inner ++ codes "*/")) tail two) ∙ sym (ap closes rest_is) ∙ end.before m (omega arith);
    }

pub block_comment_is : (text : List ℕ) (m : ℕ) → starts_with nat_eq text (codes "/*") ≡ true → comment_end 0 (drop 2 text) ≡ Some m → IsBlockComment (take (m + 2) text)
block_comment_is text m starts e =
    let low = comment_low 0 (drop 2 text) m e in
    let k : ℕ = m - 2 in
    let offset : m ≡ 0 + k + 2 = omega arith in
    block_by text (m + 2) k starts (omega arith) (comment_first 0 k (drop 2 text) (e ∙ ap Some offset))
