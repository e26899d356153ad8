-- What is claimed of an expression and of its parts, wherever it stands, and when contexts on both sides fit.
use Rattle.std.proofs.Common.{◌≡◌, ◌≤◌, ℕ, suc, List, [], ◌∷◌}
use Rattle.std.specs.Prelude.{length, slice_get, Some}
use Rattle.val_core.specs.declared.values.Value.{Value}
use Rattle.val_core.specs.Memory.{Memory as Blocks}
use Rattle.val_core.specs.Refinement.{Direction, Forward, Backward, exactly, Refines}
use Rattle.val_core.specs.Answers.{Answer, then_on}
use Rattle.c_type.specs.Trees.{TypeTree}
use Rattle.c_typed.specs.Typed.{ExprTree}
use Rattle.c_typed.specs.WellTyped.{Signature, AreScalar, type_of}
use Rattle.c_mean.specs.State.{State, Valued}
use Rattle.c_mean.specs.Expressions as source
use Rattle.c_mean.specs.Expressions.{Arguments, expr_run}
use Rattle.c_mean.specs.Statements.{Flow}
use Rattle.g_graph.specs.declared.op.Origin.{Origin}
use Rattle.g_mean.specs.Data.{Datum, val, taken}
use Rattle.g_mean.specs.Meaning as graph
use Rattle.g_mean.specs.LessDefined.{AreSound}
use Rattle.g_build_keeps.specs.Laws.{GivesBack}
use Rattle.g_build_keeps.proofs.Readings.{IsBelow, IsSoundContext}
use Rattle.g_build_keeps.proofs.Toolbox.{Post}
use Rattle.g_build_keeps.proofs.Held.{shown, Frame, Holds}
use Rattle.g_build_keeps.proofs.Choice.{After, OneValue}
use Rattle.g_build_keeps.proofs.Tests.{Decided, decided}

-- The graph counts the last look at the condition of a loop as a turn, so forwards it has one turn more.
abbrev pub BoundsFit : Direction → (near far : ℕ) → Type 0
BoundsFit Forward n m = suc n ≤ m
BoundsFit Backward n m = m ≤ n

-- Contexts of the source and of the graph, over functions of these signatures, that fit.
pub record ContextsFit (w : Direction) (functions : List Signature) (c : source.Context) (d : graph.Context) : Type 0 where
  pub addresses : c.addresses ≡ d.addresses
  pub bounds : BoundsFit w c.bound d.bound
  pub sound : IsSoundContext d
  pub scalars : (k : ℕ) (callee : Signature) → slice_get functions k ≡ Some callee → AreScalar callee.params
  pub calls : (k : ℕ) (callee : Signature) → slice_get functions k ≡ Some callee → (vs : List Value) → length vs ≡ length callee.params → (m : Blocks) (i : List ℕ) → AreSound (taken vs m i) →
      Refines exactly w GivesBack (c.calls k vs m i) (d.call k (taken vs m i))

-- The state after an expression of this type is held, and its value is carried, unless it is void.
abbrev pub Typed : Frame → Flow → TypeTree → Post Valued Origin
Typed f flow t = After f (λ _. flow) (λ x. x.state) (OneValue (λ x. shown t x.value))

-- The state after a part that gives nothing is held.
abbrev pub States : Frame → Flow → Post State (Unit {0})
States f flow q rd t v = Holds f flow rd t.next t.carried q

-- each origin carries the value in its place
abbrev pub AllCarried : (rd : Origin → Datum) (n : ℕ) → List Value → List Origin → Type 0
AllCarried rd n [] [] = Unit {0}
AllCarried rd n (v ∷ vs) (p ∷ ps) = ((rd p ≡ val v) × IsBelow n p) × AllCarried rd n vs ps
AllCarried rd n _ _ = ⊥

-- The state after so many arguments is held, and they are carried.
abbrev pub AreGiven : Frame → Flow → (count : ℕ) → Post Arguments (List Origin)
AreGiven f flow count y rd t ps = Holds f flow rd t.next t.carried y.state × AllCarried rd t.next y.values ps × (length y.values ≡ count)

-- a condition
abbrev pub test_run : source.Context → ExprTree → State → Answer Decided
test_run c e q = then_on (expr_run c e q) (decided (type_of e))
