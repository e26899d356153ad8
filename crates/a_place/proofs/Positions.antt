-- The names of a position, with their intervals as the code has them.
use Rattle.std.proofs.Common.{◌≡◌, ◌<◌, ℕ, ◌+◌, List, map, length, get_or, ap, sym, ◌∙◌, subst, arith}
use Rattle.std.proofs.lemmas.List.{length-map}
use Rattle.val_core.proofs.lemmas.Numbers.{length_numbers}
use Rattle.s_linear.specs.Lines.{Line}
use Rattle.val_core.specs.Numbers.{numbers_from}
use Rattle.s_linear.specs.Views.{line_of}
use Rattle.s_linear.specs.declared.line.Line as code_line
use Rattle.a_place.specs.Places.{name_count, starting, given}
use Rattle.a_place.specs.Sweep.{IsSweepAt, AllStartAt, span_of, spans_of, given_before}
use Rattle.a_place.specs.declared.spans.Span.{Span}
use Rattle.a_place.specs.declared.sweep.Sweep.{Sweep}
use Rattle.a_place.proofs.Order.{get_numbers}
use Rattle.a_place.proofs.lemmas.Starting.{starting_below, starting_last, all_start, given_more}

pub length_spans : (lines : List Line) (spans : List Span) → spans ≡ spans_of lines → length spans ≡ name_count lines
length_spans lines spans e = ap length e ∙ length-map (numbers_from 0 (name_count lines)) (span_of lines) ∙ length_numbers 0 (name_count lines)

pub at_span : (lines : List Line) (spans : List Span) (x : ℕ) (d : Span) → spans ≡ spans_of lines → x < length spans → span_of lines x ≡ get_or spans x d
at_span lines spans x d e h =
    let below : x < name_count lines = rw (length_spans lines spans e) at h in
    rw e (sym (get_numbers (span_of lines) 0 (name_count lines) x d below ∙ ap (span_of lines) (omega arith)))

module _ (lines : List Line) (spans : List Span) (names : List ℕ) (p : ℕ) (spans_are : spans ≡ spans_of lines) (names_are : names ≡ starting lines p) where
  pub names_inside : (k : ℕ) → k < length names → get_or names k 0 < length spans
  names_inside k h = rw (names_are, length_spans lines spans spans_are) (starting_below lines p k (rw names_are at h))

  pub ends_inside : p < length lines → (k : ℕ) (d : Span) → k < length names → (get_or spans (get_or names k 0) d).last < length lines
  ends_inside room k d h =
      rw (sym (at_span lines spans (get_or names k 0) d spans_are (names_inside k h)), names_are) (starting_last lines p k room (rw names_are at h))

  pub names_start : p < length lines → AllStartAt lines p names
  names_start room = rw names_are (all_start lines p room)

  pub given_next : (s : Sweep) → IsSweepAt lines (p + 1) (given lines names (given_before lines p)) s → IsSweepAt lines (p + 1) (given_before lines (p + 1)) s
  given_next s h = subst (λ gs. IsSweepAt lines (p + 1) gs s) (ap (λ xs. given lines xs (given_before lines p)) names_are ∙ given_more lines p) h

-- ---- the lines of the code

pub size_of : (code : List code_line.Line) (lines : List Line) → map line_of code ≡ lines → length code ≡ length lines
size_of code lines e = sym (length-map code line_of) ∙ ap length e
