-- Data of the kinds that edges have.
use Rattle.std.specs.Prelude.{◌≡◌, ℕ, ◌+◌, ◌*◌, ◌≤◌, ◌++◌, IsTrue, List, [], ◌∷◌, map, replicate, slice_get, Option, None, Some}
use Rattle.val_core.specs.declared.values.Value.{Value}
use Rattle.val_core.specs.Values.{IsLessDefined, IsSound}
use Rattle.val_core.specs.Memory.{Memory}
use Rattle.val_core.specs.Events.{deepest}
use Rattle.val_core.specs.Answers.{Gives, IsUndefined, events}
use Rattle.val_core.specs.Within.{behaviour, Within}
use Rattle.g_graph.specs.declared.op.Kind.{Kind}
use Rattle.g_graph.specs.declared.op.Kind.TheVariants as kind
use Rattle.g_graph.specs.declared.op.Origin.{Origin}
use Rattle.g_graph.specs.Plain.{RegionTree, region, NodeTree, NodeTrees, args_of, PlainLambda}
use Rattle.g_graph.specs.Signatures.{joined, result_kinds, output_kinds, kind_after}
use Rattle.g_graph.specs.WellFormed.{every_region, region_fits, IsWellFormed}
use Rattle.g_mean.specs.Data.{Datum, val, memory, input, at_port}
use Rattle.g_mean.specs.Meaning.{Meaning, Context, Outputs, no_outputs, region_meaning, node_run, nodes_run}
use Rattle.g_mean.specs.Calls.{applied, lambda_at}
use Rattle.g_mean.specs.Silent.{IsWellFormedNode}
use Rattle.g_mean.specs.LessDefined.{AreSound}
use Rattle.g_mean.specs.Refining.{LambdasSameBut}
use Rattle.g_mean.specs.Replacement.{Replaces}

abbrev pub IsOfKind : Kind → Datum → Type 0
IsOfKind kind.Value (val v) = Unit {0}
IsOfKind kind.Memory (memory m) = Unit {0}
IsOfKind kind.Io (input i) = Unit {0}
IsOfKind _ _ = ⊥

abbrev pub AreOfKinds : List Kind → List Datum → Type 0
AreOfKinds [] [] = Unit {0}
AreOfKinds (k ∷ ks) (x ∷ xs) = IsOfKind k x × AreOfKinds ks xs
AreOfKinds _ _ = ⊥

abbrev pub AreWellFormed : List PlainLambda → Type 0
AreWellFormed [] = Unit {0}
AreWellFormed (l ∷ ls) = IsWellFormed l × AreWellFormed ls

-- the kinds of what a call takes that has so many arguments, and of what it gives
abbrev pub call_takes : ℕ → List Kind
call_takes count = replicate count kind.Value ++ kind.Memory ∷ kind.Io ∷ []

abbrev pub call_gives : List Kind
call_gives = kind.Value ∷ kind.Memory ∷ kind.Io ∷ []

-- what gives data of these kinds where it takes data of those
abbrev pub KeepsKinds : (takes gives : List Kind) → Meaning → Type 0
KeepsKinds takes gives m = (xs : List Datum) → AreOfKinds takes xs → Gives (AreOfKinds gives) (m xs)

-- calls of every function give a value and both states where they take values and both states
abbrev pub CallsKeepKinds : (ℕ → Meaning) → Type 0
CallsKeepKinds call = (f count : ℕ) → KeepsKinds (call_takes count) call_gives (call f)

-- the outputs that have a kind carry data of that kind,
abbrev pub OutputsHaveKinds : List (Option Kind) → List Datum → Type 0
OutputsHaveKinds ks ys = (p : ℕ) (k : Kind) → joined (slice_get ks p) ≡ Some k → IsOfKind k (at_port ys p)

-- and so in a map do the outputs of all these nodes
abbrev pub MapHasKinds : NodeTrees → Outputs → Type 0
MapHasKinds ns o = (n p : ℕ) (k : Kind) → kind_after ns n p None ≡ Some k → IsOfKind k (o n p)

-- A well-formed region, with all that is nested in it, gives data of its results' kinds where it takes data of its
-- arguments' kinds.
abbrev pub RegionsKeepKinds : Type 0
RegionsKeepKinds =
    (objects : ℕ) (c : Context) → CallsKeepKinds c.call → (r : RegionTree) → IsTrue (every_region (region_fits objects) r) →
    (gives : List Kind) → result_kinds r ≡ map Some gives → KeepsKinds (args_of r) gives (region_meaning c r)

-- Each node gives data of its outputs' kinds on what the earlier nodes gave,
abbrev pub NodesKeepKinds : Type 0
NodesKeepKinds =
    (objects : ℕ) (c : Context) → CallsKeepKinds c.call → (args : List Kind) (before : NodeTrees) (x : NodeTree) → IsWellFormedNode objects args before x →
    (xs : List Datum) → AreOfKinds args xs → (o : Outputs) → MapHasKinds before o → Gives (OutputsHaveKinds (output_kinds x)) (node_run c x xs o)

-- and so in the last map all nodes of a well-formed region do.
abbrev pub MapsKeepKinds : Type 0
MapsKeepKinds =
    (objects : ℕ) (c : Context) → CallsKeepKinds c.call → (args : List Kind) (nodes : NodeTrees) (results : List Origin) →
    IsTrue (every_region (region_fits objects) (region args nodes results)) →
    (xs : List Datum) → AreOfKinds args xs → Gives (MapHasKinds nodes) (nodes_run c nodes xs no_outputs)

-- Calls over a list of well-formed lambdas keep kinds at every bound.
abbrev pub AppliedKeepsKinds : Type 0
AppliedKeepsKinds = (n : ℕ) (ls : List PlainLambda) (global : ℕ → Value) → AreWellFormed ls → CallsKeepKinds (applied ls global n)

-- A well-formed lambda, among others, gives a value and both states where it is given values and both states.
abbrev pub LambdasKeepKinds : Type 0
LambdasKeepKinds =
    (n : ℕ) (ls : List PlainLambda) (global : ℕ → Value) (f count : ℕ) (xs : List Datum) → AreWellFormed ls →
    AreOfKinds (call_takes count) xs → Gives (AreOfKinds call_gives) (lambda_at n ls global f xs)

-- Two calls give back the same memory and the same input, and values of which the farther one may stand for the nearer.
pub record ReturnsRefine (xs ys : List Datum) : Type 0 where
  pub near : Value
  pub far : Value
  pub blocks : Memory
  pub left : List ℕ
  pub near_is : xs ≡ val near ∷ memory blocks ∷ input left ∷ []
  pub far_is : ys ≡ val far ∷ memory blocks ∷ input left ∷ []
  pub less : IsLessDefined near far

-- Each call over the one list of lambdas is within the call over the other one at twice its bound and two more, and the
-- calls over the changed list meet no deeper stacks.
pub record CallsWithinTwice (ls ks : List PlainLambda) (global : ℕ → Value) (f : ℕ) (xs : List Datum) (n : ℕ) : Type 0 where
  pub forward : Within ReturnsRefine (behaviour (lambda_at n ls global f xs)) (behaviour (lambda_at (2 * n + 2) ks global f xs))
  pub back : Within (λ ys us. ReturnsRefine us ys) (behaviour (lambda_at n ks global f xs)) (behaviour (lambda_at (2 * n + 2) ls global f xs))
  pub no_deeper : (sizes : ℕ → ℕ) → deepest sizes (events (lambda_at n ks global f xs)) ≤ deepest sizes (events (lambda_at (2 * n + 2) ls global f xs))

-- The replacement law for lists of well-formed lambdas, started on values and both states.
abbrev pub WellFormedKeepMeaning : Type 0
WellFormedKeepMeaning =
    (ls ks : List PlainLambda) → AreWellFormed ls → AreWellFormed ks → LambdasSameBut (Replaces ls ks) ls ks →
    (global : ℕ → Value) (f count : ℕ) (xs : List Datum) → ((k : ℕ) → IsSound (global k)) → AreSound xs → AreOfKinds (call_takes count) xs →
    ((n : ℕ) → IsUndefined (lambda_at n ls global f xs) → ⊥) → (n : ℕ) → CallsWithinTwice ls ks global f xs n
