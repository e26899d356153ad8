-- A change of one region of a lambda, and what is known of each region that it may change.
use Rattle.std.specs.Prelude.{◌≡◌, ℕ, zero, suc, nat_lt, List, [], ◌∷◌, length, Option, Some, slice_get, slice_set, IsTrue}
use Rattle.g_graph.specs.Plain.{RegionTree, PlainLambda}
use Rattle.g_graph.specs.Change.{lambda_changed}
use Rattle.g_graph.specs.Ids.{region_ids}
use Rattle.g_graph.specs.Lists.{RegionOps, Calls, IsComplete}
use Rattle.g_graph.specs.WellFormed.{IsWellFormed, every_region, region_fits, distinct, all_of}
use Rattle.g_mean.specs.Refining.{LambdasSameBut}
use Rattle.g_mean.specs.Copies.{IsClosed}
use Rattle.g_mean.specs.Replacement.{Replaces, FunctionsKeepMeaning, ProgramKeepsMeaning}

-- The lambda with its body changed as `here` says, where it gives a region in the place of one; the number of its next
-- node may be another.
pub record IsEdited (here : RegionTree → Option RegionTree) (l k : PlainLambda) : Type 0 where
  pub number : l.number ≡ k.number
  pub params : l.params ≡ k.params
  pub objects : l.objects ≡ k.objects
  pub body : k.body ≡ (lambda_changed here l).body

-- the lambda of function `f` so changed, and all others as they were
abbrev pub AreEditedAt : (here : RegionTree → Option RegionTree) → (f : ℕ) → List PlainLambda → List PlainLambda → Type 0
AreEditedAt here f [] [] = Unit {0}
AreEditedAt here zero (l ∷ ls) (k ∷ ks) = IsEdited here l k × (ls ≡ ks)
AreEditedAt here (suc f) (l ∷ ls) (k ∷ ks) = (l ≡ k) × AreEditedAt here f ls ks
AreEditedAt here f _ _ = ⊥

-- What is known of a region, at any depth, of a well-formed lambda: it fits, with all that is nested in it, its inputs
-- are there, and the numbers of its nodes are unique and below the next one.
pub record IsPartOf (l : PlainLambda) (r : RegionTree) : Type 0 where
  pub fits : IsTrue (every_region (region_fits (length l.objects)) r)
  pub closed : IsClosed r
  pub unique : IsTrue (distinct (region_ids r))
  pub below : IsTrue (all_of (λ n. nat_lt n l.next) (region_ids r))

-- Where the region that a change makes of one of a well-formed lambda may replace it, the lists of lambdas are equal but
-- for replaced regions, and so keep their meaning.
abbrev pub EditsReplace : Type 0
EditsReplace =
    (ls ks : List PlainLambda) (here : RegionTree → Option RegionTree) (f : ℕ) → AreEditedAt here f ls ks →
    ((l : PlainLambda) → slice_get ls f ≡ Some l → IsWellFormed l) →
    ((l : PlainLambda) (r s : RegionTree) → slice_get ls f ≡ Some l → IsPartOf l r → here r ≡ Some s → Replaces ls ks r s) →
    LambdasSameBut (Replaces ls ks) ls ks

-- ---- one lambda for another, in any list

-- Lambda `k` may stand for `l`: every function keeps its meaning, and so does every program.
pub record KeepsMeaning (l k : PlainLambda) : Type 0 where
  pub functions : (ls : List PlainLambda) (f : ℕ) → slice_get ls f ≡ Some l → FunctionsKeepMeaning ls (slice_set ls f k)
  pub program : (ls : List PlainLambda) (f : ℕ) → slice_get ls f ≡ Some l → ProgramKeepsMeaning ls (slice_set ls f k)

-- a complete list stays complete with `k` for `l`
abbrev pub KeepsComplete : PlainLambda → PlainLambda → Type 0
KeepsComplete l k = (ls : List PlainLambda) (f : ℕ) → slice_get ls f ≡ Some l → IsComplete ls → IsComplete (slice_set ls f k)

-- A well-formed lambda may be changed where the new region may replace the old one, whatever the lambdas,
abbrev pub EditsKeepMeaning : Type 0
EditsKeepMeaning =
    (here : RegionTree → Option RegionTree) (l k : PlainLambda) → IsWellFormed l → IsEdited here l k →
    ((ls ks : List PlainLambda) (r s : RegionTree) → IsPartOf l r → here r ≡ Some s → Replaces ls ks r s) → KeepsMeaning l k

-- and lists stay complete where the lambda stays well formed, and the new region makes only calls of the old one.
abbrev pub EditsKeepComplete : Type 0
EditsKeepComplete =
    (here : RegionTree → Option RegionTree) (l k : PlainLambda) → IsWellFormed k → IsEdited here l k →
    ((ls : List PlainLambda) (r s : RegionTree) → here r ≡ Some s → RegionOps (Calls ls) r → RegionOps (Calls ls) s) → KeepsComplete l k
