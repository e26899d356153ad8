-- Declarations of variables that begin with a value or with none, and the items in their scope.
use Rattle.std.proofs.Common.{◌≡◌, ℕ, suc, List, [], ◌∷◌, ◌++◌, refl, sym, ap, ◌∙◌, subst, arith}
use Rattle.std.specs.Prelude.{◌-◌, Bool, true, false, take, length, slice_get, Option, Some, None}
use Rattle.val_core.specs.declared.values.Value.{Value}
use Rattle.val_core.specs.declared.values.Value.TheVariants.{Bad}
use Rattle.val_core.specs.Refinement.{Direction}
use Rattle.val_core.specs.Answers.{Answer, Returned, then_on}
use Rattle.c_typed.specs.Typed.{ExprTree, initial_value, DeclarationTree, ItemTrees, declare_then, VariableTree}
use Rattle.c_typed.specs.WellTyped.{Signature, IsScalar, type_of}
use Rattle.c_typed.specs.Objects.{object_number}
use Rattle.c_mean.specs.State as source_state
use Rattle.c_mean.specs.State.{State, used, with_slots}
use Rattle.c_mean.specs.Expressions as source
use Rattle.c_mean.specs.Expressions.{expr_run}
use Rattle.c_mean.specs.Statements as source_stmt
use Rattle.c_mean.specs.Statements.{Flow, normal, in_scope, out_of_scope, newest_written, declared, items_run}
use Rattle.g_graph.specs.declared.op.Origin.{Origin}
use Rattle.g_graph.specs.Plain.{nodes_of}
use Rattle.g_build_def.specs.Writer.{held, object, newest, Point, pushed, popped, newest_set, Built, nothing, bind}
use Rattle.g_build_def.specs.Operations.{undef_made}
use Rattle.g_build_def.specs.Expressions.{expr_made}
use Rattle.g_build_def.specs.Statements.{value_begun, declared_made, items_made}
use Rattle.g_build_def.specs.Exits.{items_jump}
use Rattle.g_build_def.specs.Laws.{variable_shape, shape_as, declared_shape}
use Rattle.g_build_def.proofs.lemmas.Later.{later_then}
use Rattle.g_build_def.proofs.lemmas.LaterExpressions.{expr_later}
use Rattle.g_build_def.proofs.lemmas.LaterStatements.{declared_later, items_later}
use Rattle.g_mean.specs.Data.{Datum}
use Rattle.g_mean.specs.Meaning.{Context, Outputs, read as read_origin, nodes_run}
use Rattle.g_build_keeps.proofs.Readings.{IsSoundRun}
use Rattle.g_build_keeps.proofs.Toolbox.{Ran, Simulates, sim-given, sim-bind}
use Rattle.g_build_keeps.proofs.Held.{Held, shown-held, Frame, Holds}
use Rattle.g_build_keeps.proofs.Nodes.{line-then, undef-line}
use Rattle.g_build_keeps.proofs.Unary.{used-there}
use Rattle.g_build_keeps.proofs.Claims.{ContextsFit, Typed}
use Rattle.g_build_keeps.proofs.Forms.{ExprClaim}
use Rattle.g_build_keeps.proofs.Jumps.{Flows, may-later}
use Rattle.g_build_keeps.proofs.Statements.{ItemsClaim}
use Rattle.g_build_keeps.proofs.Turns.{Stepped}
use Rattle.g_build_keeps.proofs.Scopes.{slots-wait, slots-add, slots-add-object, named-add, slots-begun, HasSlot, slots-left, slots-count, newest-later}

-- ---- frames

-- so many variables in scope, of which each has its place
abbrev pub framed : List ℕ → ℕ → Bool → Frame
framed hs n m = record { numbers = hs; count = n; waiting = []; is_main = m }

-- and one that waits for its value
abbrev pub with_waiting : List ℕ → ℕ → Bool → Frame
with_waiting hs n m = record { numbers = hs; count = n; waiting = source_state.holds Bad ∷ []; is_main = m }

module _ (hs : List ℕ) (n : ℕ) (m : Bool) (flow : Flow) (rd : Origin → Datum) (k : ℕ) (t : Point) (q : State) where
  holds-wait : Holds (framed hs n m) flow rd k t.carried q → Holds (with_waiting hs n m) flow rd k t.carried (in_scope q (source_state.holds Bad))
  holds-wait h =
      record {
        slots = slots-wait rd k (source_state.holds Bad ∷ []) t.carried.variables hs q.slots h.slots;
        count = h.count;
        jumps = h.jumps;
        memory = h.memory;
        memory_below = h.memory_below;
        io = h.io;
        io_below = h.io_below;
      }

  holds-begun : (v : Value) (p : Origin) → Held rd k v p → Holds (with_waiting hs n m) flow rd k t.carried q → Holds (framed hs (suc n) m) flow rd k (pushed (held p) t).carried (newest_written q v)
  holds-begun v p g h =
      record {
        slots = slots-begun rd k (source_state.holds Bad) t.carried.variables hs q.slots v p g h.slots;
        count = named-add t.carried.variables (held p) refl ∙ ap suc h.count;
        jumps = h.jumps;
        memory = h.memory;
        memory_below = h.memory_below;
        io = h.io;
        io_below = h.io_below;
      }

  holds-push : (v : Value) (p : Origin) → Held rd k v p → Holds (framed hs n m) flow rd k t.carried q →
      Holds (framed hs (suc n) m) flow rd k (pushed (held p) t).carried (in_scope q (source_state.holds v))
  holds-push v p g h =
      record {
        slots = slots-add rd k t.carried.variables hs q.slots v p g h.slots;
        count = named-add t.carried.variables (held p) refl ∙ ap suc h.count;
        jumps = h.jumps;
        memory = h.memory;
        memory_below = h.memory_below;
        io = h.io;
        io_below = h.io_below;
      }

  pub holds-push-object : (j : ℕ) → Holds (framed hs n m) flow rd k t.carried q → Holds (framed hs (suc n) m) flow rd k (pushed (object j) t).carried (in_scope q (source_state.object j))
  holds-push-object j h =
      record {
        slots = slots-add-object rd k t.carried.variables hs q.slots j h.slots;
        count = named-add t.carried.variables (object j) refl ∙ ap suc h.count;
        jumps = h.jumps;
        memory = h.memory;
        memory_below = h.memory_below;
        io = h.io;
        io_below = h.io_below;
      }

  -- the newest variable leaves
  holds-pop : HasSlot (newest t.carried.variables) → Holds (framed hs (suc n) m) flow rd k t.carried q → Holds (framed hs n m) flow rd k (popped t).carried (with_slots q (take n q.slots))
  holds-pop has h =
      let r = slots-left rd k t.carried.variables hs q.slots n has h.count h.slots in
      record { slots = r.0; count = r.1; jumps = h.jumps; memory = h.memory; memory_below = h.memory_below; io = h.io; io_below = h.io_below }

-- its value is another one
holds-newest : (hs : List ℕ) (n : ℕ) (m : Bool) (flow : Flow) (rd : Origin → Datum) (k : ℕ) (t : Point) (q : State) (v : Value) (p : Origin) → HasSlot (newest t.carried.variables) → Held rd k v p →
    Holds (framed hs (suc n) m) flow rd k t.carried q → Holds (framed hs (suc n) m) flow rd k (newest_set (held p) t).carried (newest_written q v)
holds-newest hs n m flow rd k t q v p has g h =
    subst (λ j. Holds (framed hs (suc n) m) flow rd k (newest_set (held p) t).carried (with_slots q (take j q.slots ++ source_state.holds v ∷ []))) all
    (holds-push hs n m flow rd k (popped t) (with_slots q (take n q.slots)) v p g (holds-pop hs n m flow rd k t q has h))
  where
    all : n ≡ length q.slots - 1
    all = let count : length q.slots ≡ suc n = slots-count rd k t.carried.variables hs q.slots h.slots ∙ h.count in omega (arith, count)

shape-has-slot : (vs : List VariableTree) (k : ℕ) (x : Option VariableTree) → HasSlot (Some (shape_as vs k x))
shape-has-slot vs k None = tt
shape-has-slot vs k (Some v) = by v.is_object
  where
    by : (b : Bool) → HasSlot (Some (variable_shape b (object_number vs k)))
    by true = tt
    by false = tt

module _ (w : Direction) (functions : List Signature) (c : source.Context) (d : Context) (fit : ContextsFit w functions c d) (hs : List ℕ) (n : ℕ) (m : Bool) where
  abbrev f : Frame
  f = framed hs n m

  abbrev g : Frame
  g = framed hs (suc n) m

  -- what a declaration makes does what the declaration does
  abbrev pub BeginsClaim : (Point → Built (Unit {0})) → (State → Answer State) → Type 0
  BeginsClaim made run =
      (xs : List Datum) (o : Outputs) → IsSoundRun xs o → (s : Point) (q : State) → Holds f normal (read_origin xs o) s.next s.carried q → Simulates w d (Stepped g normal) xs o s.next (made s) (run q)

  abbrev pub DeclarationClaim : List VariableTree → DeclarationTree → Type 0
  DeclarationClaim vs e = BeginsClaim (declared_made vs e) (λ q. declared c vs e.variable (slice_get vs e.variable) e.initial q)

  -- ---- value variables

  -- without a value
  pub none-begun : BeginsClaim (λ s. bind (undef_made s) (λ o t. nothing (pushed (held o) t))) (λ q. Returned (in_scope q (source_state.holds Bad)) [])
  none-begun xs o r s q h =
      line-then w d f normal fit.sound (Stepped g normal) xs o s.next r (undef_made s) (λ p t. nothing (pushed (held p) t)) q Bad (Returned (in_scope q (source_state.holds Bad)) [])
      (undef-line w d f normal xs o s q h) (λ o' r' m'.
      sim-given w d (Stepped g normal) xs o' (undef_made s).after.next tt (pushed (held (undef_made s).value) (undef_made s).after) (in_scope q (source_state.holds Bad)) (omega arith)
      (holds-push hs n m normal (read_origin xs o') (undef_made s).after.next (undef_made s).after q Bad (undef_made s).value m'.post.1 m'.post.0, tt))

  -- with a value in which it is not named
  pub value-begun : (e : ExprTree) → IsScalar (type_of e) → ExprClaim w functions c d fit (with_waiting hs n m) normal e →
      BeginsClaim (value_begun false (initial_value e)) (λ q. source_stmt.value_begun c (initial_value e) (in_scope q (source_state.holds Bad)))
  value-begun e scalar k xs o r s q h =
      sim-bind w d fit.sound (Typed (with_waiting hs n m) normal (type_of e)) (Stepped g normal) xs o s.next r first (λ v t. nothing (pushed (held v) t))
      (expr_run c e (in_scope q (source_state.holds Bad)))
      (λ x. used x.value (λ v. Returned (newest_written x.state v) []))
      (k xs o r s (in_scope q (source_state.holds Bad)) (holds-wait hs n m normal (read_origin xs o) s.next s q h)) (λ y o' r' m'.
      used-there w (Ran (Stepped g normal) xs o' first.after.next (nothing (pushed (held first.value) first.after))) y.value (λ v. Returned (newest_written y.state v) [])
      (nodes_run d (nodes_of []) xs o') (λ there.
      sim-given w d (Stepped g normal) xs o' first.after.next tt (pushed (held first.value) first.after) (newest_written y.state y.value) (omega arith) (
        holds-begun hs n m normal (read_origin xs o') first.after.next first.after y.state y.value first.value
            (shown-held (read_origin xs o') first.after.next (type_of e) y.value first.value scalar m'.post.1) m'.post.0,
        tt,
      )))
    where
      first : Built Origin
      first = expr_made e s

  -- with a value in which it is named
  pub named-begun : (e : ExprTree) → IsScalar (type_of e) → ExprClaim w functions c d fit g normal e →
      BeginsClaim (value_begun true (initial_value e)) (λ q. source_stmt.value_begun c (initial_value e) (in_scope q (source_state.holds Bad)))
  named-begun e scalar k xs o r s q h =
      line-then w d f normal fit.sound (Stepped g normal) xs o s.next r first (λ p t. bind (expr_made e (pushed (held p) t)) (λ v u. nothing (newest_set (held v) u))) q Bad
      (source_stmt.value_begun c (initial_value e) (in_scope q (source_state.holds Bad))) (undef-line w d f normal xs o s q h) (λ o1 r1 m1.
      sim-bind w d fit.sound (Typed g normal (type_of e)) (Stepped g normal) xs o1 first.after.next r1 second (λ v u. nothing (newest_set (held v) u))
      (expr_run c e (in_scope q (source_state.holds Bad)))
      (λ x. used x.value (λ v. Returned (newest_written x.state v) []))
      (k xs o1 r1 start (in_scope q (source_state.holds Bad)) (holds-push hs n m normal (read_origin xs o1) first.after.next first.after q Bad first.value m1.post.1 m1.post.0)) (λ y o2 r2 m2.
      used-there w (Ran (Stepped g normal) xs o2 second.after.next (nothing (newest_set (held second.value) second.after))) y.value (λ v. Returned (newest_written y.state v) [])
      (nodes_run d (nodes_of []) xs o2) (λ there.
      sim-given w d (Stepped g normal) xs o2 second.after.next tt (newest_set (held second.value) second.after) (newest_written y.state y.value) (omega arith) (
        holds-newest hs n m normal (read_origin xs o2) second.after.next second.after y.state y.value second.value
            (newest-later first.after second.after (held first.value) tt (expr_later e start))
            (shown-held (read_origin xs o2) second.after.next (type_of e) y.value second.value scalar m2.post.1) m2.post.0,
        tt,
      ))))
    where
      first : Built Origin
      first = undef_made s

      start : Point
      start = pushed (held first.value) first.after

      second : Built Origin
      second = expr_made e start

  -- ---- the items in scope

  pub declare-then : (vs : List VariableTree) (e : DeclarationTree) (is : ItemTrees) → DeclarationClaim vs e → ItemsClaim w functions c d fit g vs is →
      ItemsClaim w functions c d fit f vs (declare_then e is)
  declare-then vs e is ce cis xs o r s q h j =
      sim-bind w d fit.sound (Stepped g normal) (Flows f) xs o s.next r first (λ _ t. bind (items_made vs is t) (λ _ u. nothing (popped u)))
      (declared c vs e.variable (slice_get vs e.variable) e.initial q)
      (λ t. then_on (items_run c vs is t) (out_of_scope (length q.slots))) (ce xs o r s q h) (λ t o1 r1 m1.
      sim-bind w d fit.sound (Flows g) (Flows f) xs o1 first.after.next r1 second (λ _ u. nothing (popped u)) (items_run c vs is t) (out_of_scope (length q.slots))
      (cis xs o1 r1 first.after t m1.post.0 (may-later (pushed (declared_shape vs e) s) first.after (items_jump is) (declared_later vs e s) j)) (λ y o2 r2 m2.
      sim-given w d (Flows f) xs o2 second.after.next tt (popped second.after) (record { flow = y.flow; state = with_slots y.state (take (length q.slots) y.state.slots) }) (omega arith) (
        subst (λ i. Holds f y.flow (read_origin xs o2) second.after.next (popped second.after).carried (with_slots y.state (take i y.state.slots))) (sym count)
            (holds-pop hs n m y.flow (read_origin xs o2) second.after.next second.after y.state
            (newest-later s second.after (declared_shape vs e) (shape-has-slot vs e.variable (slice_get vs e.variable))
            (later_then (pushed (declared_shape vs e) s) first.after second.after (declared_later vs e s) (items_later vs is first.after)))
            m2.post.0),
        tt,
      )))
    where
      first : Built (Unit {0})
      first = declared_made vs e s

      second : Built (Unit {0})
      second = items_made vs is first.after

      count : length q.slots ≡ n
      count = slots-count (read_origin xs o) s.next s.carried.variables hs q.slots h.slots ∙ h.count
