-- The names of lines are the numbers below their count.
use Rattle.std.proofs.Common.{◌≡◌, ◌<◌, ℕ, true, List, [], ◌∷◌, inl, inr, arith, eqb-true}
use Rattle.std.specs.Prelude.{◌==◌}
use Rattle.std.proofs.lemmas.Bool.{or_cases}
use Rattle.g_graph.specs.WellFormed.{some_of}
use Rattle.s_linear.specs.Lines.{Line, line_names}
use Rattle.a_place.specs.Places.{among, occurs, above, name_count}

pub above_all : (x : ℕ) (xs : List ℕ) → among x xs ≡ true → x < above xs
above_all x [] e = cc
above_all x (y ∷ ys) e =
    elim (or_cases (y == x) (among x ys) e) [
      | inl here ↦ let same : y ≡ x = eqb-true y x here in omega arith
      | inr there ↦ let h : x < above ys = above_all x ys there in omega arith
    ]

-- A name that occurs is below the count of names.
pub below_name_count : (x : ℕ) (lines : List Line) → some_of (occurs x) lines ≡ true → x < name_count lines
below_name_count x [] e = cc
below_name_count x (l ∷ ls) e =
    elim (or_cases (occurs x l) (some_of (occurs x) ls) e) [
      | inl here ↦ let h : x < above (line_names l) = above_all x (line_names l) here in omega arith
      | inr there ↦ let h : x < name_count ls = below_name_count x ls there in omega arith
    ]
