-- What a step of a rule promises of the changed lambda, and what it keeps of every list of lambdas, so that steps can
-- follow each other.
use Rattle.std.specs.Prelude.{◌≡◌, ◌≢◌, ℕ, ◌≤◌, List, [], ◌∷◌, Option, Some, slice_get, slice_set}
use Rattle.val_core.specs.declared.values.Value.{Value}
use Rattle.val_core.specs.Values.{IsSound}
use Rattle.val_core.specs.Events.{deepest}
use Rattle.val_core.specs.Answers.{Answer, events, IsUndefined}
use Rattle.val_core.specs.Within.{behaviour, Within}
use Rattle.g_graph.specs.Plain.{RegionTree, PlainLambda, PlainOmega}
use Rattle.g_graph.specs.Lists.{RegionOps, Calls, NamesGlobal, IsComplete}
use Rattle.g_graph.specs.Program.{lambda_values, IsProgram}
use Rattle.g_graph.specs.WellFormed.{IsWellFormed}
use Rattle.g_mean.specs.Data.{Datum}
use Rattle.g_mean.specs.Calls.{lambda_at, program_at}
use Rattle.g_mean.specs.Kinds.{AreOfKinds, call_takes, ReturnsRefine}
use Rattle.g_mean.specs.LessDefined.{Paired, AreBytes, AreSound, IsLessDefinedDatum, AreSoundDeltas}
use Rattle.g_mean.specs.Edits.{IsPartOf, IsEdited}
use Rattle.g_mean.specs.Replacement.{Replaces}
use Rattle.r_edit.specs.Size.{IsNoLarger, IsResized}

-- ---- bounded runs of two sides

-- Each run of the one family is within a run of the other one, and each run of the farther family meets no deeper
-- stacks than some run of the nearer one. No bounds are named, so that this composes.
pub record WithinBothWays (near far : ℕ → Answer (List Datum)) : Type 0 where
  pub forward : (n : ℕ) → (m : ℕ) × Within (Paired IsLessDefinedDatum) (behaviour (near n)) (behaviour (far m))
  pub back : (n : ℕ) → (m : ℕ) × Within (λ ys xs. Paired IsLessDefinedDatum xs ys) (behaviour (far n)) (behaviour (near m))
  pub no_deeper : (n : ℕ) → (m : ℕ) × ((sizes : ℕ → ℕ) → deepest sizes (events (far n)) ≤ deepest sizes (events (near m)))

-- the same where no run of the nearer family is undefined
abbrev pub AreKeptBothWays : (near far : ℕ → Answer (List Datum)) → Type 0
AreKeptBothWays near far = ((n : ℕ) → IsUndefined (near n) → ⊥) → WithinBothWays near far

-- ---- lists of lambdas

-- The lambdas `ks` may stand for `ls`: every function keeps its meaning, and so does every program, on every input; a
-- complete list stays complete, and one of an image stays one.
pub record MayStandForAll (ls ks : List PlainLambda) : Type 0 where
  pub functions : (global : ℕ → Value) (f : ℕ) (xs : List Datum) → ((k : ℕ) → IsSound (global k)) → AreSound xs →
      AreKeptBothWays (λ n. lambda_at n ls global f xs) (λ n. lambda_at n ks global f xs)
  pub program : (omega : PlainOmega) (i : List ℕ) → AreSoundDeltas omega.deltas → AreBytes i →
      AreKeptBothWays (λ n. program_at n omega ls i) (λ n. program_at n omega ks i)
  pub complete : IsComplete ls → IsComplete ks
  pub image : (omega : PlainOmega) → IsProgram omega ls → IsProgram omega ks

-- ---- one lambda for another

-- what a rule never changes
pub record KeepsInterface (l k : PlainLambda) : Type 0 where
  pub number : k.number ≡ l.number
  pub params : k.params ≡ l.params
  pub objects : k.objects ≡ l.objects

-- each of these lambdas stands at its number
abbrev pub HasEach : (held ls : List PlainLambda) → Type 0
HasEach [] ls = Unit {0}
HasEach (c ∷ held) ls = (slice_get ls c.number ≡ Some c) × HasEach held ls

-- The record of a change. Lambda `k` is well formed, and it may stand for `l` in every list that has `l` and each of
-- `held` at their numbers: none for a rule that looks at its lambda alone, the callee for inlining.
pub record MayStandFor (held : List PlainLambda) (l k : PlainLambda) : Type 0 where
  pub interface : KeepsInterface l k
  pub well_formed : IsWellFormed k
  pub values : IsNoLarger (lambda_values l) (lambda_values k)
  pub lists : (ls : List PlainLambda) → slice_get ls l.number ≡ Some l → HasEach held ls → MayStandForAll ls (slice_set ls l.number k)

-- What a rule that looks at its lambda alone proves of the region that it makes of one of lambda `l`: it may replace the
-- old one in any lambdas, makes calls of a list and names globals where the old one does, and is resized as `l` may be.
pub record IsSafeChange (here : RegionTree → Option RegionTree) (l : PlainLambda) : Type 0 where
  pub replaces : (ls ks : List PlainLambda) (r s : RegionTree) → IsPartOf l r → here r ≡ Some s → Replaces ls ks r s
  pub calls : (ls : List PlainLambda) (r s : RegionTree) → here r ≡ Some s → RegionOps (Calls ls) r → RegionOps (Calls ls) s
  pub names : (globals : ℕ) (r s : RegionTree) → here r ≡ Some s → RegionOps (NamesGlobal globals) r → RegionOps (NamesGlobal globals) s
  pub resized : (r s : RegionTree) → here r ≡ Some s → IsResized (lambda_values l) r s

-- ---- laws

-- Where the lambda stays well formed, a safe change of a region is a step, whatever lambdas are held.
abbrev pub SafeChangesAreSteps : Type 0
SafeChangesAreSteps =
    (here : RegionTree → Option RegionTree) (l k : PlainLambda) → IsWellFormed l → IsWellFormed k → IsEdited here l k → IsSafeChange here l → (held : List PlainLambda) →
    MayStandFor held l k

-- a lambda with a changed body has the interface that it had
abbrev pub EditsKeepInterface : Type 0
EditsKeepInterface = (here : RegionTree → Option RegionTree) (l k : PlainLambda) → IsEdited here l k → KeepsInterface l k

-- a well-formed lambda may stand for itself
abbrev pub NoStepIsAStep : Type 0
NoStepIsAStep = (held : List PlainLambda) (l : PlainLambda) → IsWellFormed l → MayStandFor held l l

-- none of these lambdas has the number
abbrev pub IsApartFrom : (number : ℕ) → (held : List PlainLambda) → Type 0
IsApartFrom number [] = Unit {0}
IsApartFrom number (c ∷ held) = (c.number ≢ number) × IsApartFrom number held

-- Steps compose, where the lambda is none of those that are held.
abbrev pub StepsCompose : Type 0
StepsCompose =
    (held : List PlainLambda) (l k j : PlainLambda) → IsApartFrom l.number held → MayStandFor held l k → MayStandFor held k j → MayStandFor held l j

-- Lists may stand for themselves,
abbrev pub ListsStandForThemselves : Type 0
ListsStandForThemselves = (ls : List PlainLambda) → MayStandForAll ls ls

-- and for each other one after the other.
abbrev pub ListsCompose : Type 0
ListsCompose = (ls ks js : List PlainLambda) → MayStandForAll ls ks → MayStandForAll ks js → MayStandForAll ls js

-- ---- what calls give

-- Each call over the one list of lambdas is within a call over the other one, as both give a value and both states: the
-- states are equal, and the value of the farther side may stand for that of the nearer. No stacks are deeper.
pub record CallsBothWays (ls ks : List PlainLambda) (global : ℕ → Value) (f : ℕ) (xs : List Datum) : Type 0 where
  pub forward : (n : ℕ) → (m : ℕ) × Within ReturnsRefine (behaviour (lambda_at n ls global f xs)) (behaviour (lambda_at m ks global f xs))
  pub back : (n : ℕ) → (m : ℕ) × Within (λ ys us. ReturnsRefine us ys) (behaviour (lambda_at n ks global f xs)) (behaviour (lambda_at m ls global f xs))
  pub no_deeper : (n : ℕ) → (m : ℕ) × ((sizes : ℕ → ℕ) → deepest sizes (events (lambda_at n ks global f xs)) ≤ deepest sizes (events (lambda_at m ls global f xs)))

-- So it is where one complete list may stand for another, and a function is given a value for each parameter and both
-- states.
abbrev pub CompleteListsReturn : Type 0
CompleteListsReturn =
    (ls ks : List PlainLambda) → MayStandForAll ls ks → IsComplete ls → (global : ℕ → Value) (f count : ℕ) (xs : List Datum) → ((k : ℕ) → IsSound (global k)) → AreSound xs →
    AreOfKinds (call_takes count) xs → ((n : ℕ) → IsUndefined (lambda_at n ls global f xs) → ⊥) → CallsBothWays ls ks global f xs
