-- A declaration of any variable, from what is claimed of what it begins with.
use Rattle.std.proofs.Common.{◌≡◌, ℕ, suc, List, sym, subst}
use Rattle.std.specs.Prelude.{Bool, true, false, slice_get, Some}
use Rattle.val_core.specs.declared.values.BlockName.{BlockName}
use Rattle.val_core.specs.declared.values.Value.TheVariants.{At, Bad}
use Rattle.val_core.specs.Refinement.{Direction}
use Rattle.c_typed.specs.Typed.{InitialTree, no_initial, initial_value, initial_elements, DeclarationTree, VariableTree}
use Rattle.c_typed.specs.WellTyped.{Signature, IsScalar, type_of}
use Rattle.c_typed.specs.Objects.{object_number}
use Rattle.c_mean.specs.State as source_state
use Rattle.c_mean.specs.State.{State}
use Rattle.c_mean.specs.Expressions as source
use Rattle.c_mean.specs.Statements as source_stmt
use Rattle.c_mean.specs.Statements.{normal, in_scope, declared}
use Rattle.g_build_def.specs.Writer.{object, Point, pushed}
use Rattle.g_build_def.specs.Statements.{value_begun, object_begun, variable_begun, declared_as}
use Rattle.g_mean.specs.Data.{Datum}
use Rattle.g_mean.specs.Meaning.{Context, Outputs, read as read_origin}
use Rattle.g_build_keeps.proofs.Readings.{IsSoundRun}
use Rattle.g_build_keeps.proofs.Toolbox.{Simulates}
use Rattle.g_build_keeps.proofs.Held.{Holds}
use Rattle.g_build_keeps.proofs.Claims.{ContextsFit}
use Rattle.g_build_keeps.proofs.Forms.{ExprClaim}
use Rattle.g_build_keeps.proofs.Turns.{Stepped}
use Rattle.g_build_keeps.proofs.Declarations.{framed, with_waiting, holds-push-object, BeginsClaim, DeclarationClaim, none-begun, value-begun, named-begun}
use Rattle.g_build_keeps.proofs.Objects.{AreWithin, ElementClaims, object-none, object-value, object-elements}

module _ (w : Direction) (functions : List Signature) (c : source.Context) (d : Context) (fit : ContextsFit w functions c d) (hs : List ℕ) (n : ℕ) (m : Bool) where
  -- what is claimed of the value that a variable begins with
  abbrev ValueClaims : (names_itself : Bool) → InitialTree → Type 0
  ValueClaims true (initial_value e) = IsScalar (type_of e) × ExprClaim w functions c d fit (framed hs (suc n) m) normal e
  ValueClaims false (initial_value e) = IsScalar (type_of e) × ExprClaim w functions c d fit (with_waiting hs n m) normal e
  ValueClaims names i = Unit {0}

  abbrev ObjectClaims : (number : ℕ) → InitialTree → Type 0
  ObjectClaims k no_initial = Unit {0}
  ObjectClaims k (initial_value e) = IsScalar (type_of e) × ExprClaim w functions c d fit (framed hs (suc n) m) normal e
  ObjectClaims k (initial_elements es) =
      (b : BlockName) × (d.addresses.local k ≡ At b 0) × AreWithin b.size es × ElementClaims w functions c d fit (framed hs (suc n) m) es

  abbrev pub InitialClaims : (is_object names_itself : Bool) → (number : ℕ) → InitialTree → Type 0
  InitialClaims false names k i = ValueClaims names i
  InitialClaims true names k i = ObjectClaims k i

  value-sim : (names : Bool) (i : InitialTree) → ValueClaims names i →
      BeginsClaim w functions c d fit hs n m (value_begun names i) (λ q. source_stmt.value_begun c i (in_scope q (source_state.holds Bad)))
  value-sim true (initial_value e) h = named-begun w functions c d fit hs n m e h.0 h.1
  value-sim false (initial_value e) h = value-begun w functions c d fit hs n m e h.0 h.1
  value-sim true no_initial h = none-begun w functions c d fit hs n m
  value-sim false no_initial h = none-begun w functions c d fit hs n m
  value-sim true (initial_elements es) h = none-begun w functions c d fit hs n m
  value-sim false (initial_elements es) h = none-begun w functions c d fit hs n m

  object-sim : (k : ℕ) (i : InitialTree) → ObjectClaims k i → (xs : List Datum) (o : Outputs) → IsSoundRun xs o → (s : Point) (q : State) →
      Holds (framed hs (suc n) m) normal (read_origin xs o) s.next s.carried q →
      Simulates w d (Stepped (framed hs (suc n) m) normal) xs o s.next (object_begun k i s) (source_stmt.object_begun c (d.addresses.local k) i q)
  object-sim k no_initial h xs o r s q g = object-none w functions c d fit (framed hs (suc n) m) k (d.addresses.local k) xs o r s q g
  object-sim k (initial_value e) h xs o r s q g = object-value w functions c d fit (framed hs (suc n) m) k e h.0 h.1 xs o r s q g
  object-sim k (initial_elements es) h xs o r s q g =
      subst (λ a. Simulates w d (Stepped (framed hs (suc n) m) normal) xs o s.next (object_begun k (initial_elements es) s) (source_stmt.object_begun c a (initial_elements es) q)) (sym h.1)
      (object-elements w functions c d fit (framed hs (suc n) m) k h.0 h.1 es h.2 h.3 xs o r s q g)

  variable-sim : (e : DeclarationTree) (is_object : Bool) (k : ℕ) → InitialClaims is_object e.names_itself k e.initial →
      BeginsClaim w functions c d fit hs n m (variable_begun is_object k e) (λ q. source_stmt.begun c is_object k e.initial q)
  variable-sim e false k h xs o r s q g = value-sim e.names_itself e.initial h xs o r s q g
  variable-sim e true k h xs o r s q g =
      subst (λ a. Simulates w d (Stepped (framed hs (suc n) m) normal) xs o s.next (object_begun k e.initial (pushed (object k) s))
      (source_stmt.object_begun c (a.local k) e.initial (in_scope q (source_state.object k))))
      (sym fit.addresses)
      (object-sim k e.initial h xs o r (pushed (object k) s) (in_scope q (source_state.object k)) (holds-push-object hs n m normal (read_origin xs o) s.next s q k g))

  pub declaration-sim : (vs : List VariableTree) (e : DeclarationTree) (v : VariableTree) → slice_get vs e.variable ≡ Some v →
      InitialClaims v.is_object e.names_itself (object_number vs e.variable) e.initial → DeclarationClaim w functions c d fit hs n m vs e
  declaration-sim vs e v there h xs o r s q g =
      subst (λ x. Simulates w d (Stepped (framed hs (suc n) m) normal) xs o s.next (declared_as vs e x s) (declared c vs e.variable x e.initial q)) (sym there)
      (variable-sim e v.is_object (object_number vs e.variable) h xs o r s q g)
