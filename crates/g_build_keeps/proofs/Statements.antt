-- Statements without loops, from what is claimed of their parts.
use Rattle.std.proofs.Common.{◌≡◌, ℕ, zero, suc, List, refl, sym, ◌∙◌, subst, arith}
use Rattle.std.specs.Prelude.{◌==◌, ◌%◌, ◌^◌, not, ◌&&◌, Bool, true, false, cond, Some, Option, None}
use Rattle.std.proofs.lemmas.Bool.{false≢true}
use Rattle.val_core.specs.declared.values.Value.{Value}
use Rattle.val_core.specs.declared.values.Value.TheVariants.{Num, Bad}
use Rattle.val_core.specs.Refinement.{Direction}
use Rattle.val_core.specs.Answers.{Answer}
use Rattle.c_typed.specs.Typed.{ExprTree, StmtTree, null, value, block, if_else, break, continue, return_value, return_none, ItemTrees, no_items, stmt_then, declare_then, VariableTree}
use Rattle.c_typed.specs.WellTyped.{Signature, IsScalar, type_of}
use Rattle.c_mean.specs.State.{State, used}
use Rattle.c_mean.specs.Expressions as source
use Rattle.c_mean.specs.Expressions.{expr_run, value_or_none}
use Rattle.c_mean.specs.Statements.{Flow, normal, broke, continued, returned, Flowed, flows, goes_on, if_normal, stmt_run, items_run}
use Rattle.c_mean.specs.Run.{value_at_end}
use Rattle.g_graph.specs.declared.op.Origin.{Origin}
use Rattle.g_graph.specs.Plain.{nodes_of}
use Rattle.g_build_def.specs.Writer.{jumping, Point, with_go, with_go_and_ret, Built, nothing, no_value, inside, choice_one_first}
use Rattle.g_build_def.specs.Operations.{const_made, undef_made}
use Rattle.g_build_def.specs.Expressions.{expr_made, tested}
use Rattle.g_build_def.specs.Exits.{stmt_exits, can_leave, some_items, stmt_jumps, items_jump}
use Rattle.g_build_def.specs.Jumps.{jump_made, return_made, unless_left}
use Rattle.g_build_def.specs.Statements.{stmt_made, items_made}
use Rattle.g_build_def.proofs.lemmas.Later.{Keeps, later_here}
use Rattle.g_build_def.proofs.lemmas.LaterExpressions.{expr_later, tested_later}
use Rattle.g_build_def.proofs.lemmas.LaterStatements.{stmt_later, items_later}
use Rattle.g_build_keeps.proofs.lemmas.Exits.{MayJump, jump_left, jump_right, stmt_leaves}
use Rattle.g_mean.specs.Data.{Datum, val}
use Rattle.g_mean.specs.Meaning.{Context, Outputs, no_outputs, read as read_origin, nodes_run}
use Rattle.g_build_keeps.specs.Exits.{Allows}
use Rattle.g_build_keeps.proofs.Readings.{IsSoundRun}
use Rattle.g_build_keeps.proofs.Toolbox.{Ran, Simulates, sim-given, sim-bind}
use Rattle.g_build_keeps.proofs.Held.{Held, held-is, shown-held, code, Frame, Holds}
use Rattle.g_build_keeps.proofs.Nodes.{Line, line-then, const-line, undef-line, held-after}
use Rattle.g_build_keeps.proofs.Choice.{Nothing, no_value-gives, picked, choice-sim}
use Rattle.g_build_keeps.proofs.Unary.{used-there}
use Rattle.g_build_keeps.proofs.Tests.{ways, apart, branched-decides, Decides}
use Rattle.g_build_keeps.proofs.Claims.{ContextsFit, Typed, test_run}
use Rattle.g_build_keeps.proofs.Forms.{ExprClaim, TestClaim}
use Rattle.g_build_keeps.proofs.Leaves.{stmt-ends, allows-normal}
use Rattle.g_build_keeps.proofs.Jumps.{Flows, jump-left-same, jumps-of, holds-jump, jumping-form, may-later, may-inside, sim-gives, one-first-sim}

some-form : (a b : Bool) → (a && b) ≡ true → a ≡ true
some-form true b e = refl
some-form false b e = absurd cc

module _ (w : Direction) (functions : List Signature) (c : source.Context) (d : Context) (fit : ContextsFit w functions c d) (f : Frame) where
  -- What is made of a statement does what the statement does, wherever it stands in a function of a form that has its jumps.
  abbrev StmtClaims : (jumps : Bool) → (Point → Built (Unit {0})) → (State → Answer Flowed) → Type 0
  StmtClaims b made run =
      (xs : List Datum) (o : Outputs) → IsSoundRun xs o → (s : Point) (q : State) → Holds f normal (read_origin xs o) s.next s.carried q → MayJump s.carried.form b →
      Simulates w d (Flows f) xs o s.next (made s) (run q)

  abbrev pub StmtClaim : List VariableTree → StmtTree → Type 0
  StmtClaim vs a = StmtClaims (stmt_jumps a) (stmt_made vs a) (stmt_run c vs a)

  abbrev pub ItemsClaim : List VariableTree → ItemTrees → Type 0
  ItemsClaim vs is = StmtClaims (items_jump is) (items_made vs is) (items_run c vs is)

  -- nothing is made, and control goes on as it does
  pub nothing-sim : (xs : List Datum) (o : Outputs) (s : Point) (q : State) (flow : Flow) → Holds f flow (read_origin xs o) s.next s.carried q → Simulates w d (Flows f) xs o s.next (nothing s)
      (flows q flow)
  nothing-sim xs o s q flow h = sim-given w d (Flows f) xs o s.next tt s (record { flow = flow; state = q }) (omega arith) (h, tt)

  pub null-stmt : (vs : List VariableTree) → StmtClaim vs null
  null-stmt vs xs o r s q h j = nothing-sim xs o s q normal h

  pub value-stmt : (vs : List VariableTree) (e : ExprTree) → ExprClaim w functions c d fit f normal e → StmtClaim vs (value e)
  value-stmt vs e k xs o r s q h j =
      sim-bind w d fit.sound (Typed f normal (type_of e)) (Flows f) xs o s.next r (expr_made e s) (λ _ t. nothing t) (expr_run c e q) (λ x. goes_on x.state) (k xs o r s q h)
      (λ y o' r' m. nothing-sim xs o' (expr_made e s).after y.state normal m.post.0)

  pub block-stmt : (vs : List VariableTree) (is : ItemTrees) → ItemsClaim vs is → StmtClaim vs (block is)
  block-stmt vs is k xs o r s q h j = k xs o r s q h j

  pub if-stmt : (vs : List VariableTree) (e : ExprTree) (a b : StmtTree) → TestClaim w functions c d fit f normal e → StmtClaim vs a → StmtClaim vs b → StmtClaim vs (if_else e a b)
  if-stmt vs e a b ce ca cb xs o r s q h j =
      subst (λ z. Simulates w d (Flows f) xs o s.next (stmt_made vs (if_else e a b) s) z) (branched-decides (expr_run c e q) (type_of e) (stmt_run c vs a) (stmt_run c vs b))
      (sim-bind w d fit.sound (Decides f normal) (Flows f) xs o s.next r first (λ p t. choice_one_first no_value t p (stmt_made vs b) (stmt_made vs a)) (test_run c e q)
      (ways (stmt_run c vs a) (stmt_run c vs b)) (ce xs o r s q h) (λ y o' r' m. by o' r' y.state m.post.0 y.truth m.post.1.0 m.post.1.1 m.post.1.3))
    where
      first : Built Origin
      first = tested e s

      form : MayJump first.after.carried.form (stmt_jumps (if_else e a b))
      form = may-later s first.after (stmt_jumps (if_else e a b)) (tested_later e s) j

      by : (o' : Outputs) → IsSoundRun xs o' → (u : State) → Holds f normal (read_origin xs o') first.after.next first.after.carried u → (truth : Bool) (n : ℕ) →
          read_origin xs o' first.value ≡ val (Num n) →
          (n == 0) ≡ not truth → Simulates w d (Flows f) xs o' first.after.next (choice_one_first no_value first.after first.value (stmt_made vs b) (stmt_made vs a))
          (cond truth (stmt_run c vs a u) (stmt_run c vs b u))
      by o' r' u h' true (suc n) z e' =
          one-first-sim w d f (λ x. x.flow) (λ x. x.state) Nothing Nothing no_value xs o' r' first.after first.value (suc n) (stmt_made vs b) (stmt_made vs a) (stmt_run c vs a u) normal u
          (no_value-gives xs o' first.after.next) z (stmt_later vs b) (stmt_later vs a) h'
          (λ us m r'' h''. ca us no_outputs r'' (inside first.after.carried m) u h'' (may-inside first.after.carried m (stmt_jumps a)
          (jump_left first.after.carried.form (stmt_jumps a) (stmt_jumps b) form)))
      by o' r' u h' false zero z e' =
          one-first-sim w d f (λ x. x.flow) (λ x. x.state) Nothing Nothing no_value xs o' r' first.after first.value 0 (stmt_made vs b) (stmt_made vs a) (stmt_run c vs b u) normal u
          (no_value-gives xs o' first.after.next) z (stmt_later vs b) (stmt_later vs a) h'
          (λ us m r'' h''. cb us no_outputs r'' (inside first.after.carried m) u h'' (may-inside first.after.carried m (stmt_jumps b)
          (jump_right first.after.carried.form (stmt_jumps a) (stmt_jumps b) form)))
      by o' r' u h' true zero z e' = absurd cc
      by o' r' u h' false (suc n) z e' = absurd (false≢true (sym (apart n) ∙ e'))

  -- ---- jumps

  jump-sim : (flow : Flow) → value_at_end f.is_main flow ≡ value_at_end f.is_main normal → (xs : List Datum) (o : Outputs) → IsSoundRun xs o → (s : Point) (q : State) →
      Holds f normal (read_origin xs o) s.next s.carried q → MayJump s.carried.form true → Simulates w d (Flows f) xs o s.next (jump_made (code flow) s) (flows q flow)
  jump-sim flow same xs o r s q h j =
      line-then w d f normal fit.sound (Flows f) xs o s.next r first (λ x t. nothing (with_go t x)) q (Num (code flow % 2 ^ 32)) (flows q flow) (const-line w d f normal xs o s q h (code flow))
      (λ o' r' m.
      let old = jumps-of (read_origin xs o') first.after.next f.is_main normal s.carried.form s.carried.go s.carried.ret form m.post.0.jumps in
      nothing-sim xs o' (with_go first.after first.value) q flow
      (holds-jump f normal flow (read_origin xs o') first.after.next first.after q first.value s.carried.ret form m.post.0 (
        subst (λ n. read_origin xs o' first.value ≡ val (Num n)) (small flow) (held-is (read_origin xs o') first.after.next (Num (code flow % 2 ^ 32)) first.value tt m.post.1),
        m.post.1.below,
        subst (λ v. Held (read_origin xs o') first.after.next (value_or_none v) s.carried.ret) (sym same) old.2,
      )))
    where
      first : Built Origin
      first = const_made (code flow) s

      form : s.carried.form ≡ jumping
      form = jumping-form s.carried.form true j refl

      small : (flow : Flow) → code flow % 2 ^ 32 ≡ code flow
      small normal = refl
      small broke = refl
      small continued = refl
      small (returned v) = refl

  pub break-stmt : (vs : List VariableTree) → StmtClaim vs break
  break-stmt vs xs o r s q h j = jump-sim broke (jump-left-same f.is_main).0 xs o r s q h j

  pub continue-stmt : (vs : List VariableTree) → StmtClaim vs continue
  continue-stmt vs xs o r s q h j = jump-sim continued (jump-left-same f.is_main).1 xs o r s q h j

  return-sim : (xs : List Datum) (o : Outputs) → IsSoundRun xs o → (s : Point) (q : State) → Holds f normal (read_origin xs o) s.next s.carried q → MayJump s.carried.form true → (v : Option Value)
      (p : Origin) →
      Held (read_origin xs o) s.next (value_or_none v) p → Simulates w d (Flows f) xs o s.next (return_made p s) (flows q (returned v))
  return-sim xs o r s q h j v p g =
      line-then w d f normal fit.sound (Flows f) xs o s.next r first (λ x t. nothing (with_go_and_ret t x p)) q (Num 3) (flows q (returned v)) (const-line w d f normal xs o s q h 3) (λ o' r' m.
      nothing-sim xs o' (with_go_and_ret first.after first.value p) q (returned v)
      (holds-jump f normal (returned v) (read_origin xs o') first.after.next first.after q first.value p (jumping-form s.carried.form true j refl) m.post.0
      (held-is (read_origin xs o') first.after.next (Num 3) first.value tt m.post.1, m.post.1.below, held-after (Line f normal q (Num 3)) xs o s.next first tt o' m (value_or_none v) p g)))
    where
      first : Built Origin
      first = const_made 3 s

  pub return-value-stmt : (vs : List VariableTree) (e : ExprTree) → IsScalar (type_of e) → ExprClaim w functions c d fit f normal e → StmtClaim vs (return_value e)
  return-value-stmt vs e scalar k xs o r s q h j =
      sim-bind w d fit.sound (Typed f normal (type_of e)) (Flows f) xs o s.next r first return_made (expr_run c e q) (λ x. used x.value (λ v. flows x.state (returned (Some v)))) (k xs o r s q h)
      (λ y o' r' m.
      used-there w (Ran (Flows f) xs o' first.after.next (return_made first.value first.after)) y.value (λ v. flows y.state (returned (Some v)))
      (nodes_run d (nodes_of (return_made first.value first.after).nodes) xs o') (λ there.
      return-sim xs o' r' first.after y.state m.post.0 (may-later s first.after true (expr_later e s) j) (Some y.value) first.value
      (shown-held (read_origin xs o') first.after.next (type_of e) y.value first.value scalar m.post.1)))
    where
      first : Built Origin
      first = expr_made e s

  pub return-none-stmt : (vs : List VariableTree) → StmtClaim vs return_none
  return-none-stmt vs xs o r s q h j =
      line-then w d f normal fit.sound (Flows f) xs o s.next r (undef_made s) return_made q Bad (flows q (returned None)) (undef-line w d f normal xs o s q h)
      (λ o' r' m. return-sim xs o' r' (undef_made s).after q m.post.0 j None (undef_made s).value m.post.1)

  -- ---- lists of items

  pub no-items : (vs : List VariableTree) → ItemsClaim vs no_items
  no-items vs xs o r s q h j = nothing-sim xs o s q normal h

  -- what follows a statement is passed over where it has left
  pub follow-sim : (made : Point → Built (Unit {0})) (run : State → Answer Flowed) → Keeps made → (xs : List Datum) (o : Outputs) → IsSoundRun xs o → (s : Point) (q : State) (flow : Flow) →
      Holds f flow (read_origin xs o) s.next s.carried q → s.carried.form ≡ jumping →
      ((us : List Datum) (m : ℕ) → IsSoundRun us no_outputs → Holds f normal (read_origin us no_outputs) m (inside s.carried m).carried q →
      Simulates w d (Flows f) us no_outputs m (made (inside s.carried m)) (run q)) →
      Simulates w d (Flows f) xs o s.next (unless_left true made s) (if_normal flow q run)
  follow-sim made run keeps xs o r s q flow h e k = by flow h (jumps-of (read_origin xs o) s.next f.is_main flow s.carried.form s.carried.go s.carried.ret e h.jumps).0
    where
      chosen : (flow : Flow) (n : ℕ) (a : Answer Flowed) → Holds f flow (read_origin xs o) s.next s.carried q → read_origin xs o s.carried.go ≡ val (Num n) →
          ((us : List Datum) (m : ℕ) → IsSoundRun us no_outputs → Holds f flow (read_origin us no_outputs) m (inside s.carried m).carried q →
          Simulates w d (Flows f) us no_outputs m (picked n made nothing (inside s.carried m)) a) →
          Simulates w d (Flows f) xs o s.next (unless_left true made s) a
      chosen flow n a h e go =
          choice-sim w d f (λ x. x.flow) (λ x. x.state) Nothing Nothing no_value xs o r s s.carried.go n made nothing a flow q (no_value-gives xs o s.next) e keeps later_here h go

      by : (flow : Flow) → Holds f flow (read_origin xs o) s.next s.carried q → read_origin xs o s.carried.go ≡ val (Num (code flow)) →
          Simulates w d (Flows f) xs o s.next (unless_left true made s) (if_normal flow q run)
      by normal h e = chosen normal 0 (run q) h e k
      by broke h e = chosen broke 1 (flows q broke) h e (λ us m r' h'. nothing-sim us no_outputs (inside s.carried m) q broke h')
      by continued h e = chosen continued 2 (flows q continued) h e (λ us m r' h'. nothing-sim us no_outputs (inside s.carried m) q continued h')
      by (returned v) h e = chosen (returned v) 3 (flows q (returned v)) h e (λ us m r' h'. nothing-sim us no_outputs (inside s.carried m) q (returned v) h')

  -- where there is nothing to pass over, or nothing leaves
  goes-sim : (vs : List VariableTree) (is : ItemTrees) (leaves : Bool) → ItemsClaim vs is → (xs : List Datum) (o : Outputs) → IsSoundRun xs o → (s : Point) (q : State) (flow : Flow) →
      Holds f flow (read_origin xs o) s.next s.carried q → MayJump s.carried.form (items_jump is) → (leaves && some_items is) ≡ false → (leaves ≡ false → flow ≡ normal) →
      Simulates w d (Flows f) xs o s.next (items_made vs is s) (if_normal flow q (items_run c vs is))
  goes-sim vs is leaves k xs o r s q normal h j e n = k xs o r s q h j
  goes-sim vs no_items leaves k xs o r s q broke h j e n = nothing-sim xs o s q broke h
  goes-sim vs no_items leaves k xs o r s q continued h j e n = nothing-sim xs o s q continued h
  goes-sim vs no_items leaves k xs o r s q (returned v) h j e n = nothing-sim xs o s q (returned v) h
  goes-sim vs (stmt_then a is) true k xs o r s q flow h j e n = absurd cc
  goes-sim vs (declare_then a is) true k xs o r s q flow h j e n = absurd cc
  goes-sim vs (stmt_then a is) false k xs o r s q broke h j e n = let z = n refl in absurd cc
  goes-sim vs (stmt_then a is) false k xs o r s q continued h j e n = let z = n refl in absurd cc
  goes-sim vs (stmt_then a is) false k xs o r s q (returned v) h j e n = let z = n refl in absurd cc
  goes-sim vs (declare_then a is) false k xs o r s q broke h j e n = let z = n refl in absurd cc
  goes-sim vs (declare_then a is) false k xs o r s q continued h j e n = let z = n refl in absurd cc
  goes-sim vs (declare_then a is) false k xs o r s q (returned v) h j e n = let z = n refl in absurd cc

  pub items-then : (vs : List VariableTree) (a : StmtTree) (is : ItemTrees) → StmtClaim vs a → ItemsClaim vs is → ItemsClaim vs (stmt_then a is)
  items-then vs a is ca cis xs o r s q h j =
      sim-bind w d fit.sound (λ y rd t v. Allows (stmt_exits a) y.flow × Flows f y rd t v) (Flows f) xs o s.next r first
      (λ _ t. unless_left (can_leave (stmt_exits a) && some_items is) (items_made vs is) t)
      (stmt_run c vs a q) (λ x. if_normal x.flow x.state (items_run c vs is))
      (sim-gives w d f (λ y. Allows (stmt_exits a) y.flow) (Flows f) xs o s.next first (stmt_run c vs a q) (stmt-ends c vs a q)
      (ca xs o r s q h (jump_left s.carried.form (stmt_jumps a) (items_jump is) j)))
      (λ y o' r' m. by y o' r' m.post.0 m.post.1 (can_leave (stmt_exits a) && some_items is) refl)
    where
      first : Built (Unit {0})
      first = stmt_made vs a s

      rest : MayJump first.after.carried.form (items_jump is)
      rest = may-later s first.after (items_jump is) (stmt_later vs a s) (jump_right s.carried.form (stmt_jumps a) (items_jump is) j)

      by : (y : Flowed) (o' : Outputs) → IsSoundRun xs o' → Allows (stmt_exits a) y.flow → Holds f y.flow (read_origin xs o') first.after.next first.after.carried y.state × Unit {0} →
          (l : Bool) → (can_leave (stmt_exits a) && some_items is) ≡ l →
          Simulates w d (Flows f) xs o' first.after.next (unless_left l (items_made vs is) first.after) (if_normal y.flow y.state (items_run c vs is))
      by y o' r' allowed h' true e =
          follow-sim (items_made vs is) (items_run c vs is) (items_later vs is) xs o' r' first.after y.state y.flow h'.0
          (jumping-form first.after.carried.form (can_leave (stmt_exits a))
          (may-later s first.after (can_leave (stmt_exits a)) (stmt_later vs a s) (stmt_leaves s.carried.form a (jump_left s.carried.form (stmt_jumps a) (items_jump is) j)))
          (some-form (can_leave (stmt_exits a)) (some_items is) e))
          (λ us m r'' h''. cis us no_outputs r'' (inside first.after.carried m) y.state h'' (may-inside first.after.carried m (items_jump is) rest))
      by y o' r' allowed h' false e =
          goes-sim vs is (can_leave (stmt_exits a)) cis xs o' r' first.after y.state y.flow h'.0 rest e (λ n. allows-normal (stmt_exits a) y.flow n allowed)
