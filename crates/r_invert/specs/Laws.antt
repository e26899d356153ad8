-- Inversion keeps meaning.
use Rattle.std.specs.Prelude.{◌≡◌, ◌==◌, ℕ, suc, ◌≤◌, IsTrue, if◌then◌else◌, List, [], ◌∷◌, Some}
use Rattle.val_core.specs.Answers.{Undefined, then_on, on_number}
use Rattle.val_core.specs.Refinement.{Direction, Forward, Backward, Refines, no_deeper}
use Rattle.g_graph.specs.declared.op.Kind.TheVariants.{Value}
use Rattle.g_graph.specs.Plain.{RegionTree, args_of, PlainLambda}
use Rattle.g_graph.specs.Ids.{region_ids}
use Rattle.g_graph.specs.Signatures.{result_kinds}
use Rattle.g_graph.specs.WellFormed.{are, distinct, every_region, region_fits, IsWellFormed}
use Rattle.g_mean.specs.Data.{Datum, value_of}
use Rattle.g_mean.specs.Meaning.{Meaning, Context, turns, region_meaning}
use Rattle.g_mean.specs.LessDefined.{Paired, IsLessDefinedDatum}
use Rattle.g_mean.specs.Refining.{ContextRefines}
use Rattle.g_mean.specs.Edits.{IsPartOf}
use Rattle.g_mean.specs.Replacement.{Replaces}
use Rattle.r_edit.specs.Steps.{MayStandFor}
use Rattle.r_invert.specs.Rule.{Parts, parts_of, inverted, takes_both_states, invert_here, lambda_inverted}

-- ---- turns

-- after the test: the one part or the other, on the entries, as the predicate says
abbrev pub either : (stop go : Meaning) → Meaning
either stop go [] = Undefined []
either stop go (p ∷ es) = on_number (value_of p) (λ w. if w == 0 then stop es else go es)

-- The region of a loop: it fits, with all that is nested in it, its numbers are unique, and it gives a predicate and each
-- loop variable, both states among them.
pub record IsLoopRegion (objects : ℕ) (r : RegionTree) : Type 0 where
  pub fits : IsTrue (every_region (region_fits objects) r)
  pub unique : IsTrue (distinct (region_ids r))
  pub results : IsTrue (are (result_kinds r) (Value ∷ args_of r))
  pub states : IsTrue (takes_both_states r)

-- The inverted loop tests first. Where the test holds, it does turns that end with the test, and then the last part.
abbrev pub InvertedLoopsTestFirst : Type 0
InvertedLoopsTestFirst =
    (objects next : ℕ) (r : RegionTree) (p : Parts) → IsLoopRegion objects r → parts_of r ≡ Some p → (c : Context) (xs : List Datum) →
    region_meaning c (inverted next p) xs
    ≡ then_on (region_meaning c p.test xs)
    (either (region_meaning c p.stop) (λ es. then_on (turns c.bound (λ us. then_on (region_meaning c p.go us) (region_meaning c p.test)) es) (region_meaning c p.stop)))

-- At most n turns are within n turns of the inverted loop, and at most n turns of that within n + 1 turns.
abbrev pub AreTurnsInverted : Direction → (near far : ℕ) → Type 0
AreTurnsInverted Forward n m = n ≤ m
AreTurnsInverted Backward n m = suc m ≤ n

abbrev pub InvertedLoopsRefine : Type 0
InvertedLoopsRefine =
    (direction : Direction) (c d : Context) → ContextRefines no_deeper direction IsLessDefinedDatum c d →
    (objects next : ℕ) (r : RegionTree) (p : Parts) → IsLoopRegion objects r → parts_of r ≡ Some p → (n : ℕ) → AreTurnsInverted direction n d.bound →
    (xs ys : List Datum) → Paired IsLessDefinedDatum xs ys →
    Refines no_deeper direction (Paired IsLessDefinedDatum) (turns n (region_meaning c r) xs) (region_meaning d (inverted next p) ys)

-- ---- regions and lambdas

-- a changed region of a well-formed lambda may replace the old one, in any lambdas
abbrev pub InvertReplaces : Type 0
InvertReplaces =
    (ls ks : List PlainLambda) (values n : ℕ) (l : PlainLambda) (r s : RegionTree) → IsPartOf l r → invert_here values l.next n r ≡ Some s → Replaces ls ks r s

-- The rule is a step: the lambda stays well formed, may stand for the old one in any list, and is no larger or small.
abbrev pub InvertIsAStep : Type 0
InvertIsAStep = (held : List PlainLambda) (n : ℕ) (l : PlainLambda) → IsWellFormed l → MayStandFor held l (lambda_inverted n l)
