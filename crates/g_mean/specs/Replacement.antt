-- Regions replaced in a list of lambdas: the one list is nearer to the source, and the other one has the changed lambdas.
use Rattle.std.specs.Prelude.{◌≡◌, ℕ, ◌+◌, ◌*◌, ◌≤◌, List}
use Rattle.val_core.specs.declared.values.Value.{Value}
use Rattle.val_core.specs.Values.{IsSound}
use Rattle.val_core.specs.Events.{deepest}
use Rattle.val_core.specs.Answers.{Answer, events, IsUndefined}
use Rattle.val_core.specs.Refinement.{Direction, Forward, Backward, no_deeper}
use Rattle.val_core.specs.Within.{behaviour, Within}
use Rattle.val_core.specs.Objects.{Addresses}
use Rattle.g_graph.specs.Plain.{RegionTree, PlainLambda, PlainOmega}
use Rattle.g_mean.specs.Data.{Datum}
use Rattle.g_mean.specs.Meaning.{Context}
use Rattle.g_mean.specs.Calls.{applied, region_at, lambda_at, program_at}
use Rattle.g_mean.specs.LessDefined.{Paired, AreBytes, AreSound, IsLessDefinedDatum, AreSoundDeltas}
use Rattle.g_mean.specs.Refining.{MeaningRefines, RegionRefines, SameBut, LambdasSameBut}

-- the bound of the side that may be cut first
abbrev pub lesser : Direction → (near far : ℕ) → ℕ
lesser Forward n m = n
lesser Backward n m = m

-- Twice that bound and so many more are at most the bound of the other side.
abbrev pub IsTwice : Direction → (more near far : ℕ) → Type 0
IsTwice Forward more n m = 2 * n + more ≤ m
IsTwice Backward more n m = 2 * m + more ≤ n

-- What a replacement may take from what stands around the two regions: their bounds, globals and calls, and that calls
-- at lesser bounds refine already.
pub record Linked (direction : Direction) (ls ks : List PlainLambda) (global : ℕ → Value) (c d : Context) : Type 0 where
  pub twice : IsTwice direction 2 c.bound d.bound
  pub near_global : (k : ℕ) → c.addresses.global k ≡ global k
  pub far_global : (k : ℕ) → d.addresses.global k ≡ global k
  pub near_call : (f : ℕ) (xs : List Datum) → c.call f xs ≡ applied ls global c.bound f xs
  pub far_call : (f : ℕ) (xs : List Datum) → d.call f xs ≡ applied ks global d.bound f xs
  pub nested : (n m : ℕ) → lesser direction n m ≤ lesser direction c.bound d.bound → IsTwice direction 1 n m → (f : ℕ) →
      MeaningRefines no_deeper direction IsLessDefinedDatum (applied ls global n f) (applied ks global m f)

-- Region `s` in a lambda of `ks` may stand for region `r` in that lambda of `ls`, whichever side is cut first.
pub record Replaces (ls ks : List PlainLambda) (r s : RegionTree) : Type 0 where
  pub at : (direction : Direction) (global : ℕ → Value) → RegionRefines no_deeper direction IsLessDefinedDatum (Linked direction ls ks global) r s

-- Of two families of bounded runs each run is within one of the other family at twice its bound and two more, and the
-- farther family meets no deeper stacks.
pub record WithinTwice (near far : ℕ → Answer (List Datum)) (n : ℕ) : Type 0 where
  pub forward : Within (Paired IsLessDefinedDatum) (behaviour (near n)) (behaviour (far (2 * n + 2)))
  pub back : Within (λ ys xs. Paired IsLessDefinedDatum xs ys) (behaviour (far n)) (behaviour (near (2 * n + 2)))
  pub no_deeper : (sizes : ℕ → ℕ) → deepest sizes (events (far n)) ≤ deepest sizes (events (near (2 * n + 2)))

-- the same where no run of the nearer family is undefined
abbrev pub IsKeptWithinTwice : (near far : ℕ → Answer (List Datum)) → Type 0
IsKeptWithinTwice near far = ((n : ℕ) → IsUndefined (near n) → ⊥) → (n : ℕ) → WithinTwice near far n

-- every function of the one list of lambdas means in the other one what it meant
abbrev pub FunctionsKeepMeaning : List PlainLambda → List PlainLambda → Type 0
FunctionsKeepMeaning ls ks =
    (global : ℕ → Value) (f : ℕ) (xs : List Datum) → ((k : ℕ) → IsSound (global k)) → AreSound xs →
    IsKeptWithinTwice (λ n. lambda_at n ls global f xs) (λ n. lambda_at n ks global f xs)

-- and so does every program, on every input
abbrev pub ProgramKeepsMeaning : List PlainLambda → List PlainLambda → Type 0
ProgramKeepsMeaning ls ks =
    (omega : PlainOmega) (i : List ℕ) → AreSoundDeltas omega.deltas → AreBytes i →
    IsKeptWithinTwice (λ n. program_at n omega ls i) (λ n. program_at n omega ks i)

-- Where the lambdas of two lists are equal but for replaced regions, at any depth, every function keeps its meaning,
abbrev pub LambdasKeepMeaning : Type 0
LambdasKeepMeaning =
    (ls ks : List PlainLambda) → LambdasSameBut (Replaces ls ks) ls ks → FunctionsKeepMeaning ls ks

-- and so does every region that is equal but for replaced ones,
abbrev pub RegionsKeepMeaning : Type 0
RegionsKeepMeaning =
    (ls ks : List PlainLambda) → LambdasSameBut (Replaces ls ks) ls ks → (r s : RegionTree) → SameBut (Replaces ls ks) r s →
    (addresses : Addresses) (xs : List Datum) → ((k : ℕ) → IsSound (addresses.local k)) → ((k : ℕ) → IsSound (addresses.global k)) →
    AreSound xs → IsKeptWithinTwice (λ n. region_at n ls r xs addresses) (λ n. region_at n ks s xs addresses)

-- and the whole program.
abbrev pub ProgramsKeepMeaning : Type 0
ProgramsKeepMeaning =
    (ls ks : List PlainLambda) → LambdasSameBut (Replaces ls ks) ls ks → ProgramKeepsMeaning ls ks
