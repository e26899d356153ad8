-- The intervals of names, line by line from the last to the first.
use Rattle.std.proofs.Common.{◌≡◌, ◌<◌, ◌≤◌, ◌≢◌, ℕ, zero, suc, ◌+◌, true, false, if◌then◌else◌, List, [], ◌∷◌, ◌++◌, map, length, get_or, take, drop, refl, ap, sym, ◌∙◌, inl, inr, arith, eq-eqb, length-drop}
use Rattle.std.specs.Prelude.{◌==◌}
use Rattle.std.proofs.Math.Seq.{drop-cons}
use Rattle.std.proofs.lemmas.Bool.{cases_Bool}
use Rattle.std.proofs.lemmas.Bool.Decides.{nat_tests}
use Rattle.std.proofs.lemmas.List.{length-map, take_all, drop_all, append-nil, same_lists}
use Rattle.g_graph.specs.WellFormed.{some_of}
use Rattle.val_core.proofs.lemmas.Numbers.{length_numbers}
use Rattle.s_linear.specs.Lines.{Line, line_names}
use Rattle.val_core.specs.Numbers.{numbers_from}
use Rattle.s_linear.specs.Views.{line_of}
use Rattle.s_linear.specs.declared.line.Line as code_line
use Rattle.a_place.specs.Places.{among, occurs, first, last, above, name_count}
use Rattle.a_place.specs.Sweep.{span_of, spans_of, begun, span_from}
use Rattle.a_place.specs.declared.spans.Span.{Span}
use Rattle.a_place.proofs.Order.{first_within, get_numbers}

-- a name that does not occur has its first position after the lines, and 0 as its last
pub first_of_none : (x : ℕ) (lines : List Line) → some_of (occurs x) lines ≡ false → first x lines ≡ length lines
first_of_none x [] e = refl
first_of_none x (l ∷ ls) e =
    elim (cases_Bool (occurs x l)) [
      | inl here ↦ let wrong : true ≡ false = rw here at e in cc
      | inr other ↦ let rest : some_of (occurs x) ls ≡ false = rw other at e in rw other (ap suc (first_of_none x ls rest))
    ]

last_of_none : (x : ℕ) (lines : List Line) → some_of (occurs x) lines ≡ false → last x lines ≡ 0
last_of_none x [] e = refl
last_of_none x (l ∷ ls) e =
    elim (cases_Bool (occurs x l)) [
      | inl here ↦ let wrong : true ≡ false = rw here at e in cc
      | inr other ↦ let rest : some_of (occurs x) ls ≡ false = rw other at e in rw rest refl
    ]

same_span : (a b c d : ℕ) → a ≡ c → b ≡ d → ◌≡◌ {A = Span} (record { first = a; last = b }) (record { first = c; last = d })
same_span a b c d p q = λ i. record { first = p i; last = q i }

pub begun_line : (x i end : ℕ) (l : Line) (ls : List Line) → end ≡ suc i + length ls
    → (if among x (line_names l) then begun i end (span_from (suc i) ls x) else span_from (suc i) ls x) ≡ span_from i (l ∷ ls) x
begun_line x i end l ls e =
    elim (cases_Bool (some_of (occurs x) ls)) [
      | inl later ↦
          let before : first x ls < length ls = first_within x ls later in
          let apart : suc i + first x ls ≢ end = omega arith in
          let test : (suc i + first x ls == end) ≡ false = grind (arith, nat_tests) in
          elim (cases_Bool (occurs x l)) [
            | inl here ↦ rw (here, later, test) (same_span _ _ _ _ (omega arith) (omega arith))
            | inr other ↦ rw (other, later) (same_span _ _ _ _ (omega arith) (omega arith))
          ]
      | inr never ↦
          let past : first x ls ≡ length ls = first_of_none x ls never in
          let test : (suc i + first x ls == end) ≡ true = eq-eqb (suc i + first x ls) end (omega arith) in
          elim (cases_Bool (occurs x l)) [
            | inl here ↦ rw (here, never, test) (same_span _ _ _ _ (omega arith) (omega arith))
            | inr other ↦ rw (other, never) (same_span _ _ _ _ (omega arith) refl)
          ]
    ]

-- one line more, of the lines of the code
fill_line : (x i end : ℕ) (ls : List code_line.Line) (d : code_line.Line) → i < length ls → end ≡ length ls
    → (if among x (line_names (line_of (get_or ls i d))) then begun i end (span_from (suc i) (map line_of (drop (suc i) ls)) x)
    else span_from (suc i) (map line_of (drop (suc i) ls)) x)
    ≡ span_from i (map line_of (drop i ls)) x
fill_line x i end ls d h e =
    let rest : length ls ≡ suc i + length (map line_of (drop (suc i) ls)) = rw (length-map, length-drop) (omega arith) in
    rw (drop-cons ls i d h) (begun_line x i end (line_of (get_or ls i d)) (map line_of (drop (suc i) ls)) (e ∙ rest))

pub fill_next : (x i j end : ℕ) (ls : List code_line.Line) (line : code_line.Line) (names : List ℕ) (before after : Span)
    → suc i ≡ j → i < length ls → end ≡ length ls → line ≡ get_or ls i line → names ≡ line_names (line_of line)
    → before ≡ span_from j (map line_of (drop j ls)) x → after ≡ (if among x names then begun i end before else before)
    → after ≡ span_from i (map line_of (drop i ls)) x
fill_next x i j end ls line names before after next h e l n b a =
    a ∙ rw (n, b) (rw (sym next) (rw l (fill_line x i end ls line h e)))

above_line : (ls : List code_line.Line) (i : ℕ) (d : code_line.Line) → i < length ls → above (line_names (line_of (get_or ls i d))) ≤ name_count (map line_of ls)
above_line [] i d h = absurd (omega arith)
above_line (l ∷ ls) zero d h = omega arith
above_line (l ∷ ls) (suc i) d h =
    let rest : above (line_names (line_of (get_or ls i d))) ≤ name_count (map line_of ls) = above_line ls i d (omega arith) in omega arith

pub names_are_below : (ls : List code_line.Line) (i : ℕ) (line : code_line.Line) (names : List ℕ) → i < length ls → line ≡ get_or ls i line
    → names ≡ line_names (line_of line) → above names ≤ name_count (map line_of ls)
names_are_below ls i line names h l n = rw (n, l) (above_line ls i line h)

filled : (lines : List Line) (x : ℕ) → span_from 0 lines x ≡ span_of lines x
filled lines x =
    elim (cases_Bool (some_of (occurs x) lines)) [
      | inl there ↦ rw there (same_span _ _ _ _ (omega arith) (omega arith))
      | inr never ↦ rw never (same_span _ _ _ _ (omega arith) (sym (last_of_none x lines never)))
    ]

pub all_filled : (lines : List Line) (spans : List Span) → length spans ≡ name_count lines
    → ((x : ℕ) (d : Span) → x < length spans → get_or spans x d ≡ span_from 0 lines x) → spans ≡ spans_of lines
all_filled lines spans e h =
    same_lists spans (spans_of lines) (e ∙ sym (length-map (numbers_from 0 (name_count lines)) (span_of lines) ∙ length_numbers 0 (name_count lines)))
    (λ k d l.
    let below : k < name_count lines = omega (arith, e, l) in
    h k d l ∙ filled lines k ∙ sym (get_numbers (span_of lines) 0 (name_count lines) k d below ∙ ap (span_of lines) (omega arith)))

-- what is left after the whole of a list was written
pub all_written : {X : Type 0} (xs ys : List X) (n : ℕ) → length xs ≡ length ys → n ≡ length ys → take n (xs ++ drop (length xs) ys) ≡ xs
all_written xs ys n e m =
    rw (drop_all (length xs) ys (omega arith), append-nil xs) (take_all n xs (omega arith))
