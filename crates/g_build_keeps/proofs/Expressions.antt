-- Every well-typed expression: what is made of it does what the source does, by one induction over the tree.
use Rattle.std.specs.Prelude.{length, slice_get, Some}
use Rattle.std.proofs.Common.{◌≡◌, ◌≤◌, ◌<◌, ℕ, zero, suc, List, [], ◌∷◌, sym, ap, subst, arith}
use Rattle.val_core.specs.Refinement.{Direction}
use Rattle.c_type.specs.Trees.{TypeTree, pointer_to}
use Rattle.c_typed.specs.Typed.{ExprTree, expr, FormTree, constant, read, address, unary, binary, logical_and, logical_or, conditional, comma, assign, compound, inc_dec, call, get, ExprTrees, no_exprs, expr_then, PlaceTree, place, local, global, at, member}
use Rattle.c_typed.specs.WellTyped.{Scope, IsScalar, AreScalar, type_of, types_of, ExprIsTyped, FormIsTyped, ExprsAreTyped, PlaceIsTyped}
use Rattle.c_mean.specs.State.{used}
use Rattle.c_mean.specs.Expressions as source
use Rattle.c_mean.specs.Expressions.{found, place_run, expr_run}
use Rattle.c_mean.specs.Statements.{Flow}
use Rattle.g_graph.specs.declared.op.Origin.{Origin}
use Rattle.g_graph.specs.Plain.{nodes_of}
use Rattle.g_build_def.specs.Writer.{Built, given}
use Rattle.g_build_def.specs.Operations.{delta_made, get_made}
use Rattle.g_build_def.specs.Places.{at_address, address_spot, member_spot}
use Rattle.g_build_def.specs.Expressions.{expr_made, place_made}
use Rattle.g_mean.specs.Meaning.{Context, read as read_origin, nodes_run}
use Rattle.g_build_keeps.proofs.Toolbox.{Ran, Simulates, sim-given, sim-bind}
use Rattle.g_build_keeps.proofs.Held.{Frame, shown-held}
use Rattle.g_build_keeps.proofs.Nodes.{delta-line}
use Rattle.g_build_keeps.proofs.Unary.{used-there}
use Rattle.g_build_keeps.proofs.Places.{Places, address-line, slot-spot-sim, member-spot-sim}
use Rattle.g_build_keeps.proofs.Claims.{ContextsFit, Typed}
use Rattle.g_build_keeps.proofs.Calls.{get-sim}
use Rattle.g_build_keeps.proofs.Forms.{ExprClaim, FormClaim, TestClaim, PlaceClaim, DroppedClaim, ArgumentsClaim, typed-of, constant-form, read-form, address-form, unary-form, binary-form, test-form, and-form, or-form, conditional-form, no-dropped, dropped-then, comma-form, no-arguments, arguments-then, call-form}
use Rattle.g_build_keeps.proofs.Assignments.{assign-form, compound-form, inc-dec-form}

module _ (w : Direction) (g : Scope) (c : source.Context) (d : Context) (fit : ContextsFit w g.functions c d) (f : Frame) (count : length g.slots ≤ f.count) (flow : Flow) where
  get-form : (t : TypeTree) → FormClaim w g.functions c d fit f flow t get
  get-form t xs o r s q h = typed-of w g.functions c d fit f flow t xs o s.next (get_made s) (source.got q q.input) (get-sim w d f flow xs o r s q h)

  -- ---- places

  local-place : (t : TypeTree) (k : ℕ) → k < length g.slots → PlaceClaim w g.functions c d fit f flow (place t (local k))
  local-place t k low xs o r s q h = slot-spot-sim w d f flow fit.sound xs o r s q h c fit.addresses k (omega (arith, low, count))

  slot-below : {A : Type 0} → (xs : List A) (k : ℕ) (x : A) → slice_get xs k ≡ Some x → k < length xs
  slot-below [] k x e = absurd cc
  slot-below (y ∷ xs) zero x e = omega arith
  slot-below (y ∷ xs) (suc k) x e = let low = slot-below xs k x e in omega (arith, low)

  global-place : (t : TypeTree) (k : ℕ) → PlaceClaim w g.functions c d fit f flow (place t (global k))
  global-place t k xs o r s q h =
      subst (λ a. Simulates w d (Places f flow) xs o s.next (address_spot (delta_made k s)) (found q (source.at_address a))) (ap (λ a. a.global k) (sym fit.addresses))
      (address-line w d f flow fit.sound xs o r s q h (delta_made k s) (d.addresses.global k) (delta-line w d f flow xs o s q h k))

  at-place : (t : TypeTree) (e : ExprTree) → type_of e ≡ pointer_to t → ExprClaim w g.functions c d fit f flow e → PlaceClaim w g.functions c d fit f flow (place t (at e))
  at-place t e z claim xs o r s q h =
      sim-bind w d fit.sound (Typed f flow (type_of e)) (Places f flow) xs o s.next r first (λ a u. given (at_address a) u) (expr_run c e q)
      (λ x. used x.value (λ a. found x.state (source.at_address a)))
      (claim xs o r s q h) (λ y o' r' m.
      used-there w (Ran (Places f flow) xs o' first.after.next (given (at_address first.value) first.after)) y.value (λ a. found y.state (source.at_address a)) (nodes_run d (nodes_of []) xs o')
      (λ there.
      sim-given w d (Places f flow) xs o' first.after.next (at_address first.value) first.after (record { spot = source.at_address y.value; state = y.state }) (omega arith)
      (m.post.0, shown-held (read_origin xs o') first.after.next (type_of e) y.value first.value (subst IsScalar (sym z) tt) m.post.1)))
    where
      first : Built Origin
      first = expr_made e s

  member-place : (t : TypeTree) (p : PlaceTree) (n : ℕ) → PlaceClaim w g.functions c d fit f flow p → PlaceClaim w g.functions c d fit f flow (place t (member p n))
  member-place t p n claim xs o r s q h =
      sim-bind w d fit.sound (Places f flow) (Places f flow) xs o s.next r (place_made p s) (λ x u. member_spot x n u) (place_run c p q) (λ x. source.member_spot x.spot n x.state) (claim xs o r s q h)
      (λ y o' r' m. member-spot-sim w d f flow fit.sound xs o' r' (place_made p s).after y.state m.post.0 y.spot (place_made p s).value n m.post.1)

  -- ---- the induction

  mutual
    pub expr-sim : (e : ExprTree) → ExprIsTyped g e → ExprClaim w g.functions c d fit f flow e
    expr-sim (expr t e) h = form-sim t e h

    pub form-sim : (t : TypeTree) (e : FormTree) → FormIsTyped g t e → FormClaim w g.functions c d fit f flow t e
    form-sim t (constant n) h = constant-form w g.functions c d fit f flow t n h.1
    form-sim t (read p) h = read-form w g.functions c d fit f flow t p (place-sim p h.0)
    form-sim t (address p) h = address-form w g.functions c d fit f flow t p (place-sim p h.0)
    form-sim t (unary o e) h = unary-form w g.functions c d fit f flow t o e h.1 (expr-sim e h.0)
    form-sim t (binary o a b) h = binary-form w g.functions c d fit f flow g.structs t o a b h.2 (expr-sim a h.0) (expr-sim b h.1)
    form-sim t (logical_and a b) h = and-form w g.functions c d fit f flow t a b (test-sim a h.0 h.2) (test-sim b h.1 h.3)
    form-sim t (logical_or a b) h = or-form w g.functions c d fit f flow t a b (test-sim a h.0 h.2) (test-sim b h.1 h.3)
    form-sim t (conditional e a b) h =
        conditional-form w g.functions c d fit f flow t e a b (test-sim e h.0 h.3) h.4 h.5 (expr-sim a h.1) (expr-sim b h.2)
    form-sim t (comma es e) h = comma-form w g.functions c d fit f flow t es e h.2 (dropped-sim es h.0) (expr-sim e h.1)
    form-sim t (assign p e) h = assign-form w g.functions c d fit f flow t p e (subst IsScalar (sym h.3) h.4) (place-sim p h.0) (expr-sim e h.1)
    form-sim t (compound o p e) h = compound-form w g.functions c d fit f flow g.structs t o p e h.3 (place-sim p h.0) (expr-sim e h.1)
    form-sim t (inc_dec i p) h = inc-dec-form w g.functions c d fit f flow g.structs t i p h.2 (place-sim p h.0)
    form-sim t (call n es) h =
        call-form w g.functions c d fit f flow t n es h.1.callee h.1.there h.1.takes (arguments-sim es h.0 (subst AreScalar (sym h.1.takes) (fit.scalars n h.1.callee h.1.there)))
    form-sim t get h = get-form t

    pub test-sim : (e : ExprTree) → ExprIsTyped g e → IsScalar (type_of e) → TestClaim w g.functions c d fit f flow e
    test-sim (expr t e) h scalar = test-form w g.functions c d fit f flow t e scalar (form-sim t e h)

    dropped-sim : (es : ExprTrees) → ExprsAreTyped g es → DroppedClaim w g.functions c d fit f flow es
    dropped-sim no_exprs h = no-dropped w g.functions c d fit f flow
    dropped-sim (expr_then e es) h = dropped-then w g.functions c d fit f flow e es (expr-sim e h.0) (dropped-sim es h.1)

    arguments-sim : (es : ExprTrees) → ExprsAreTyped g es → AreScalar (types_of es) → ArgumentsClaim w g.functions c d fit f flow es
    arguments-sim no_exprs h scalars = no-arguments w g.functions c d fit f flow
    arguments-sim (expr_then e es) h scalars =
        arguments-then w g.functions c d fit f flow e es scalars.0 (expr-sim e h.0) (arguments-sim es h.1 scalars.1)

    pub place-sim : (p : PlaceTree) → PlaceIsTyped g p → PlaceClaim w g.functions c d fit f flow p
    place-sim (place t (local n)) h = local-place t n (slot-below g.slots n h.0 h.1)
    place-sim (place t (global n)) h = global-place t n
    place-sim (place t (at e)) h = at-place t e h.1 (expr-sim e h.0)
    place-sim (place t (member p n)) h = member-place t p n (place-sim p h.0)
