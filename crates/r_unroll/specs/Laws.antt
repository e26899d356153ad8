-- Unrolling keeps meaning.
use Rattle.std.specs.Prelude.{◌≡◌, ◌==◌, ℕ, suc, ◌*◌, ◌≤◌, if◌then◌else◌, List, [], ◌∷◌, length, Some}
use Rattle.val_core.specs.declared.values.Value.TheVariants.{Num}
use Rattle.val_core.specs.Answers.{Returned, Undefined, then_on, on_number}
use Rattle.val_core.specs.Refinement.{Direction, Forward, Backward, Refines, no_deeper}
use Rattle.g_graph.specs.Plain.{RegionTree, args_of, results_of, PlainLambda}
use Rattle.g_graph.specs.WellFormed.{IsWellFormed}
use Rattle.g_mean.specs.Data.{Datum, val, value_of}
use Rattle.g_mean.specs.Meaning.{Meaning, Context, turns, region_meaning}
use Rattle.g_mean.specs.LessDefined.{Paired, IsLessDefinedDatum}
use Rattle.g_mean.specs.Refining.{ContextRefines}
use Rattle.g_mean.specs.Copies.{IsClosed}
use Rattle.g_mean.specs.Edits.{IsPartOf}
use Rattle.g_mean.specs.Replacement.{Replaces}
use Rattle.r_edit.specs.Steps.{MayStandFor}
use Rattle.r_unroll.specs.Rule.{unrolled, unroll_here, lambda_unrolled}

-- ---- turns

-- after a turn: the predicate 0 and the variables as they are, or a second turn, as the predicate says
abbrev pub second_turn : Meaning → Meaning
second_turn body [] = Undefined []
second_turn body (p ∷ ys) = on_number (value_of p) (λ w. if w == 0 then Returned (val (Num 0) ∷ ys) [] else body ys)

-- the region of a loop: closed, with a result for the predicate and one for each argument
pub record IsLoopRegion (r : RegionTree) : Type 0 where
  pub closed : IsClosed r
  pub results : length (results_of r) ≡ suc (length (args_of r))

-- The unrolled region does one turn and then, where the predicate is not 0, a second one.
abbrev pub UnrolledRegionsTakeTwoTurns : Type 0
UnrolledRegionsTakeTwoTurns =
    (next : ℕ) (r : RegionTree) → IsLoopRegion r → (c : Context) (xs : List Datum) → region_meaning c (unrolled next r) xs ≡ then_on (region_meaning c r xs) (second_turn (region_meaning c r))

-- At most n turns are within n unrolled turns, and at most n unrolled turns within 2n turns.
abbrev pub AreTurnsUnrolled : Direction → (near far : ℕ) → Type 0
AreTurnsUnrolled Forward n m = n ≤ m
AreTurnsUnrolled Backward n m = 2 * m ≤ n

abbrev pub UnrolledTurnsRefine : Type 0
UnrolledTurnsRefine =
    (direction : Direction) (c d : Context) → ContextRefines no_deeper direction IsLessDefinedDatum c d →
    (next : ℕ) (r : RegionTree) → IsLoopRegion r → (n m : ℕ) → AreTurnsUnrolled direction n m → (xs ys : List Datum) → Paired IsLessDefinedDatum xs ys →
    Refines no_deeper direction (Paired IsLessDefinedDatum) (turns n (region_meaning c r) xs) (turns m (region_meaning d (unrolled next r)) ys)

-- ---- regions and lambdas

-- a changed region of a well-formed lambda may replace the old one, in any lambdas
abbrev pub UnrollReplaces : Type 0
UnrollReplaces =
    (ls ks : List PlainLambda) (values next n : ℕ) (l : PlainLambda) (r s : RegionTree) → IsPartOf l r → unroll_here values next n r ≡ Some s → Replaces ls ks r s

-- The rule is a step: the lambda stays well formed, may stand for the old one in any list, and is no larger or small.
abbrev pub UnrollIsAStep : Type 0
UnrollIsAStep = (held : List PlainLambda) (n : ℕ) (l : PlainLambda) → IsWellFormed l → MayStandFor held l (lambda_unrolled n l)
