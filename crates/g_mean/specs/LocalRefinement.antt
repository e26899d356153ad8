-- What suffices for one region to replace another.
use Rattle.std.specs.Prelude.{◌≡◌, ℕ, List, [], Some, slice_get}
use Rattle.val_core.specs.declared.values.Value.{Value}
use Rattle.val_core.specs.Values.{IsSound}
use Rattle.val_core.specs.Answers.{Answer, Returned, Cut, Exited, Undefined, Gives}
use Rattle.val_core.specs.Refinement.{Direction, Refines, no_deeper}
use Rattle.g_graph.specs.Plain.{RegionTree, PlainLambda}
use Rattle.g_mean.specs.Data.{Datum}
use Rattle.g_mean.specs.Meaning.{Context, region_meaning}
use Rattle.g_mean.specs.LessDefined.{Paired, AreSound, IsLessDefinedDatum}
use Rattle.g_mean.specs.Refining.{ContextRefines}
use Rattle.g_mean.specs.Replacement.{Linked, Replaces}

-- The second answer may stand for the first: the first is undefined, or they are equal but for the results, which `R`
-- relates.
abbrev pub RefinesLocally : {A : Type 0} → (A → A → Type 0) → Answer A → Answer A → Type 0
RefinesLocally R (Undefined o) b = Unit {0}
RefinesLocally R (Returned x o) (Returned y p) = R x y × (o ≡ p)
RefinesLocally R (Cut o) (Cut p) = o ≡ p
RefinesLocally R (Exited o s) (Exited p t) = (o ≡ p) × (s ≡ t)
RefinesLocally R _ _ = ⊥

-- what stands around a region gives sound data
pub record IsSoundContext (c : Context) : Type 0 where
  pub locals : (k : ℕ) → IsSound (c.addresses.local k)
  pub globals : (k : ℕ) → IsSound (c.addresses.global k)
  pub calls : (f : ℕ) (xs : List Datum) → AreSound xs → Gives AreSound (c.call f xs)

-- Wherever both stand, on sound data, the answer of `s` may stand for that of `r`.
abbrev pub IsLocallyRefinedBy : RegionTree → RegionTree → Type 0
IsLocallyRefinedBy r s =
    (c : Context) (xs : List Datum) → IsSoundContext c → AreSound xs → RefinesLocally (Paired IsLessDefinedDatum) (region_meaning c r xs) (region_meaning c s xs)

-- A region that refines another one may replace it, in any lambdas.
abbrev pub LocalRefinementsReplace : Type 0
LocalRefinementsReplace = (ls ks : List PlainLambda) (r s : RegionTree) → IsLocallyRefinedBy r s → Replaces ls ks r s

-- A call of a lambda without objects may be replaced by its body in the place of the call: the bound inside the call is
-- one less, and the call's stacks are not met.
abbrev pub BodiesReplaceCalls : Type 0
BodiesReplaceCalls =
    (ls ks : List PlainLambda) (direction : Direction) (global : ℕ → Value) (c d : Context) →
    ContextRefines no_deeper direction IsLessDefinedDatum c d → Linked direction ls ks global c d →
    (f : ℕ) (l : PlainLambda) → slice_get ls f ≡ Some l → l.objects ≡ [] → (xs ys : List Datum) → Paired IsLessDefinedDatum xs ys →
    Refines no_deeper direction (Paired IsLessDefinedDatum) (c.call f xs) (region_meaning d l.body ys)
