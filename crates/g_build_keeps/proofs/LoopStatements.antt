-- Loops, from what is claimed of their conditions, steps and bodies.
use Rattle.std.proofs.Common.{◌≡◌, ℕ, suc, List, [], ◌∷◌, map, refl, sym, ap, ◌∙◌, subst, arith}
use Rattle.std.proofs.Math.Path.{fun_ext}
use Rattle.std.specs.Prelude.{◌==◌, not, Bool, true, false}
use Rattle.std.proofs.lemmas.Bool.{false≢true}
use Rattle.val_core.specs.declared.values.Value.TheVariants.{Num}
use Rattle.val_core.specs.Words.{one_if}
use Rattle.val_core.specs.Refinement.{Direction, Forward, exactly, Refines}
use Rattle.val_core.specs.Answers.{Answer, Returned, Cut, then_on}
use Rattle.val_core.proofs.lemmas.Answers.{then_associates}
use Rattle.c_typed.specs.Typed.{ExprTree, OptionalExpr, no_expr, some_expr, StmtTree, loop, do_while, VariableTree}
use Rattle.c_typed.specs.WellTyped.{Signature, type_of}
use Rattle.c_mean.specs.State.{State}
use Rattle.c_mean.specs.Expressions as source
use Rattle.c_mean.specs.Expressions.{expr_run}
use Rattle.c_mean.specs.Statements.{Flow, normal, broke, continued, returned, Flowed, past_flow, past, after_turn, optional_step, loop_run, do_run, stmt_run}
use Rattle.g_graph.specs.declared.op.Origin.{Origin}
use Rattle.g_graph.specs.Plain.{nodes_of}
use Rattle.g_build_def.specs.Writer.{jumping, Point, Built, nothing, bind, dropped, no_value, one_value, inside, choice, repeat}
use Rattle.g_build_def.specs.Operations.{const_made, is_zero_made}
use Rattle.g_build_def.specs.Expressions.{expr_made, tested}
use Rattle.g_build_def.specs.Exits.{stmt_exits, can_leave, stmt_jumps}
use Rattle.g_build_def.specs.Jumps.{jump_ended, break_ended, optional_tested, step_made, again_made, turn_made, do_again_made}
use Rattle.g_build_def.specs.Statements.{stmt_made}
use Rattle.g_build_def.proofs.lemmas.Later.{Keeps, later_here, bind_later, repeat_later}
use Rattle.g_build_def.proofs.lemmas.LaterExpressions.{const_later, expr_later, tested_later}
use Rattle.g_build_def.proofs.lemmas.LaterStatements.{dropped_later, jump_ended_later, optional_later, step_later, again_later, turn_later, do_again_later, stmt_later}
use Rattle.g_build_keeps.proofs.lemmas.Exits.{MayJump, stmt_leaves}
use Rattle.g_mean.specs.Data.{Datum, val}
use Rattle.g_mean.specs.Meaning.{Context, Outputs, no_outputs, read as read_origin, nodes_run}
use Rattle.g_mean.proofs.lemmas.Equal.{exactly-compares}
use Rattle.g_mean.proofs.lemmas.Regions.{less-cut}
use Rattle.g_build_keeps.specs.Exits.{Allows}
use Rattle.g_build_keeps.proofs.Readings.{extended-here, IsSoundRun}
use Rattle.g_build_keeps.proofs.Toolbox.{Post, Ran, Simulates, sim-goes, sim-given, sim-bind}
use Rattle.g_build_keeps.proofs.Held.{held-is, code, Frame, Holds}
use Rattle.g_build_keeps.proofs.Nodes.{Line, const-line, is-zero-line}
use Rattle.g_build_keeps.proofs.Choice.{Nothing, ExtraGives, no_value-gives, picked, choice-sim}
use Rattle.g_build_keeps.proofs.Tests.{ways, Decides, ways-sim}
use Rattle.g_build_keeps.proofs.Claims.{ContextsFit, Typed, test_run}
use Rattle.g_build_keeps.proofs.Forms.{ExprClaim, TestClaim}
use Rattle.g_build_keeps.proofs.Leaves.{Left, stmt-ends, loop-left, do-left, allows-normal, left-normal}
use Rattle.g_build_keeps.proofs.Jumps.{Flows, jumps-of, jumping-form, may-later, may-inside, sim-gives}
use Rattle.g_build_keeps.proofs.Statements.{StmtClaim}
use Rattle.g_build_keeps.proofs.Loops.{Turned, turned, TurnsOn, Turns, IsLoop, repeat-sim}
use Rattle.g_build_keeps.proofs.Turns.{resumed, stepped_turn, asked_turn, optional_test, over, while_turn, while-turns, stepped-turns, asked-turns, Stepped, StepClaim, jump-ended-sim, break-ended-sim, resumed-left, resumed-code}

-- the word of a turn is given by a choice as it is by its region
turns-give : (xs : List Datum) (o : Outputs) (id : ℕ) → ExtraGives one_value xs o id TurnsOn TurnsOn
turns-give xs o id =
    record {
      ports = λ rd v rest j. refl;
      value = λ y rd n m v rest less h. ((h.0.0, extended-here o id (map rd (v ∷ rest)) 0 ∙ h.0.1, h.0.2), h.1);
    }

module _ (w : Direction) (functions : List Signature) (c : source.Context) (d : Context) (fit : ContextsFit w functions c d) (f : Frame) where
  -- ---- the step

  expr-step : (e : ExprTree) → ExprClaim w functions c d fit f normal e → (xs : List Datum) (o : Outputs) → IsSoundRun xs o → (s : Point) (q : State) →
      Holds f normal (read_origin xs o) s.next s.carried q → Simulates w d (Stepped f normal) xs o s.next (dropped (expr_made e s)) (optional_step c (some_expr e) q)
  expr-step e k xs o r s q h =
      sim-bind w d fit.sound (Typed f normal (type_of e)) (Stepped f normal) xs o s.next r (expr_made e s) (λ _ t. nothing t) (expr_run c e q) (λ x. Returned x.state []) (k xs o r s q h)
      (λ y o' r' m. sim-given w d (Stepped f normal) xs o' (expr_made e s).after.next tt (expr_made e s).after y.state (omega arith) (m.post.0, tt))

  step-sim : (l : Bool) (step : OptionalExpr) → StepClaim w functions c d fit f step → (xs : List Datum) (o : Outputs) → IsSoundRun xs o → (s : Point) (q : State) →
      Holds f normal (read_origin xs o) s.next s.carried q → MayJump s.carried.form l → Simulates w d (Stepped f normal) xs o s.next (step_made l step s) (optional_step c step q)
  step-sim l no_expr k xs o r s q h j = sim-given w d (Stepped f normal) xs o s.next tt s q (omega arith) (h, tt)
  step-sim false (some_expr e) k xs o r s q h j = expr-step e k xs o r s q h
  step-sim true (some_expr e) k xs o r s q h j =
      choice-sim w d f (λ (u : State). normal) (λ u. u) Nothing Nothing no_value xs o r s s.carried.go 0 (λ t. dropped (expr_made e t)) nothing (optional_step c (some_expr e) q) normal q
      (no_value-gives xs o s.next) (jumps-of (read_origin xs o) s.next f.is_main normal s.carried.form s.carried.go s.carried.ret (jumping-form s.carried.form true j refl) h.jumps).0
      (λ t. dropped_later t (expr_made e t) (expr_later e t)) later_here h (λ us n r' h'. expr-step e k us no_outputs r' (inside s.carried n) q h')

  -- a step that is passed over
  passed-sim : (flow : Flow) (n : ℕ) → code flow ≡ suc n → (step : OptionalExpr) (xs : List Datum) (o : Outputs) → IsSoundRun xs o → (s : Point) (q : State) →
      Holds f flow (read_origin xs o) s.next s.carried q → s.carried.form ≡ jumping → Simulates w d (Stepped f flow) xs o s.next (step_made true step s) (Returned q [])
  passed-sim flow n e no_expr xs o r s q h j = sim-given w d (Stepped f flow) xs o s.next tt s q (omega arith) (h, tt)
  passed-sim flow n e (some_expr x) xs o r s q h j =
      choice-sim w d f (λ (u : State). flow) (λ u. u) Nothing Nothing no_value xs o r s s.carried.go (suc n) (λ t. dropped (expr_made x t)) nothing (Returned q []) flow q
      (no_value-gives xs o s.next) (subst (λ k. read_origin xs o s.carried.go ≡ val (Num k)) e (jumps-of
      (read_origin xs o) s.next f.is_main flow s.carried.form s.carried.go s.carried.ret j h.jumps).0)
      (λ t. dropped_later t (expr_made x t) (expr_later x t)) later_here h
      (λ us m r' h'. sim-given w d (Stepped f flow) us no_outputs m tt (inside s.carried m) q (omega arith) (h', tt))

  -- ---- after the body

  -- the turn goes on where `go` is 0
  go-zero-sim : (flow : Flow) (again : Bool) → (one_if (code flow == 0) == 0) ≡ not again → (again ≡ true → flow ≡ normal) → (xs : List Datum) (o : Outputs) → IsSoundRun xs o → (s : Point)
      (q : State) →
      Holds f flow (read_origin xs o) s.next s.carried q → s.carried.form ≡ jumping →
      Simulates w d (Turns f) xs o s.next (is_zero_made s.carried.go s) (Returned (record { again = again; flow = flow; state = q }) [])
  go-zero-sim flow again z e xs o r s q h j =
      let g = jumps-of (read_origin xs o) s.next f.is_main flow s.carried.form s.carried.go s.carried.ret j h.jumps in
      sim-goes w d (Line f flow q (Num (one_if (code flow == 0)))) (Turns f) xs o s.next (is_zero_made s.carried.go s) (Returned tt []) (λ _. record { again = again; flow = flow; state = q })
      (λ y o' m. (m.post.0, ((one_if (code flow == 0), held-is (read_origin xs o') _ (Num (one_if (code flow == 0))) _ tt m.post.1, z), e)))
      (is-zero-line w d f flow fit.sound xs o r s q h s.carried.go (code flow) g.0 g.1)

  again-true-sim : (step : OptionalExpr) → StepClaim w functions c d fit f step → (flow : Flow) (xs : List Datum) (o : Outputs) → IsSoundRun xs o → (s : Point) (q : State) →
      Holds f flow (read_origin xs o) s.next s.carried q → s.carried.form ≡ jumping → Simulates w d (Turns f) xs o s.next (again_made true step s) (stepped_turn c step flow q)
  again-true-sim step k flow xs o r s q h j =
      sim-bind w d fit.sound (Stepped f (resumed flow)) (Turns f) xs o s.next r first (λ _ t. bind (step_made true step t) (λ _ u. is_zero_made u.carried.go u)) (Returned q [])
      (stepped_turn c step flow)
      (jump-ended-sim w functions c d fit f 2 flow (resumed flow) refl (resumed-code flow) (resumed-left f.is_main flow) xs o r s q h j) (λ y o' r' m. by flow y o' r' m.post.0)
    where
      first : Built (Unit {0})
      first = jump_ended 2 s

      form : first.after.carried.form ≡ jumping
      form = (jump_ended_later 2 s).form ∙ j

      second : Built (Unit {0})
      second = step_made true step first.after

      form' : second.after.carried.form ≡ jumping
      form' = (step_later true step first.after).form ∙ form

      goes : (y : State) (o' : Outputs) → IsSoundRun xs o' → Holds f normal (read_origin xs o') first.after.next first.after.carried y →
          Simulates w d (Turns f) xs o' first.after.next (bind second (λ _ u. is_zero_made u.carried.go u)) (stepped_turn c step normal y)
      goes y o' r' h' =
          sim-bind w d fit.sound (Stepped f normal) (Turns f) xs o' first.after.next r' second (λ _ u. is_zero_made u.carried.go u) (optional_step c step y)
          (λ u. Returned (record { again = true; flow = normal; state = u }) []) (step-sim true step k xs o' r' first.after y h' (subst (λ x. MayJump x true) (sym form) tt))
          (λ u o'' r'' m. go-zero-sim normal true refl (λ e. refl) xs o'' r'' second.after u m.post.0 form')

      leaves : (flow : Flow) (n : ℕ) → code flow ≡ suc n → (y : State) (o' : Outputs) → IsSoundRun xs o' → Holds f flow (read_origin xs o') first.after.next first.after.carried y →
          Simulates w d (Turns f) xs o' first.after.next (bind second (λ _ u. is_zero_made u.carried.go u)) (Returned (record { again = false; flow = flow; state = y }) [])
      leaves flow n e y o' r' h' =
          sim-bind w d fit.sound (Stepped f flow) (Turns f) xs o' first.after.next r' second (λ _ u. is_zero_made u.carried.go u) (Returned y [])
          (λ u. Returned (record { again = false; flow = flow; state = u }) [])
          (passed-sim flow n e step xs o' r' first.after y h' form)
          (λ u o'' r'' m. go-zero-sim flow false (zero flow n e) (λ z. absurd cc) xs o'' r'' second.after u m.post.0 form')
        where
          zero : (flow : Flow) (n : ℕ) → code flow ≡ suc n → (one_if (code flow == 0) == 0) ≡ true
          zero normal n e = absurd cc
          zero broke n e = refl
          zero continued n e = refl
          zero (returned v) n e = refl

      by : (flow : Flow) (y : State) (o' : Outputs) → IsSoundRun xs o' → Holds f (resumed flow) (read_origin xs o') first.after.next first.after.carried y →
          Simulates w d (Turns f) xs o' first.after.next (bind second (λ _ u. is_zero_made u.carried.go u)) (stepped_turn c step flow y)
      by normal y o' r' h' = goes y o' r' h'
      by continued y o' r' h' = goes y o' r' h'
      by broke y o' r' h' = leaves broke 0 refl y o' r' h'
      by (returned v) y o' r' h' = leaves (returned v) 2 refl y o' r' h'

  again-false-sim : (step : OptionalExpr) → StepClaim w functions c d fit f step → (xs : List Datum) (o : Outputs) → IsSoundRun xs o → (s : Point) (q : State) →
      Holds f normal (read_origin xs o) s.next s.carried q → MayJump s.carried.form false → Simulates w d (Turns f) xs o s.next (again_made false step s) (stepped_turn c step normal q)
  again-false-sim step k xs o r s q h j =
      sim-bind w d fit.sound (Stepped f normal) (Turns f) xs o s.next r second (λ _ t. const_made 1 t) (optional_step c step q) (λ u. Returned (record { again = true; flow = normal; state = u }) [])
      (step-sim false step k xs o r s q h j) (λ u o' r' m.
      sim-goes w d (Line f normal u (Num 1)) (Turns f) xs o' second.after.next (const_made 1 second.after) (Returned tt []) (λ _. record { again = true; flow = normal; state = u })
      (λ y o'' m'. (m'.post.0, ((1, held-is (read_origin xs o'') _ (Num 1) _ tt m'.post.1, refl), λ e. refl))) (const-line w d f normal xs o' second.after u m.post.0 1))
    where
      second : Built (Unit {0})
      second = step_made false step s

  again-sim : (l : Bool) (step : OptionalExpr) → StepClaim w functions c d fit f step → (flow : Flow) → (l ≡ false → flow ≡ normal) → (xs : List Datum) (o : Outputs) → IsSoundRun xs o → (s : Point)
      (q : State) →
      Holds f flow (read_origin xs o) s.next s.carried q → MayJump s.carried.form l → Simulates w d (Turns f) xs o s.next (again_made l step s) (stepped_turn c step flow q)
  again-sim true step k flow n xs o r s q h j = again-true-sim step k flow xs o r s q h (jumping-form s.carried.form true j refl)
  again-sim false step k flow n xs o r s q h j =
      subst (λ x. Simulates w d (Turns f) xs o s.next (again_made false step s) (stepped_turn c step x q)) (sym (n refl))
      (again-false-sim step k xs o r s q (subst (λ x. Holds f x (read_origin xs o) s.next s.carried q) (n refl) h) j)

  -- ---- turns

  abbrev pub OptionalClaim : OptionalExpr → Type 0
  OptionalClaim no_expr = Unit {0}
  OptionalClaim (some_expr e) = TestClaim w functions c d fit f normal e

  optional-sim : (e : OptionalExpr) → OptionalClaim e → (xs : List Datum) (o : Outputs) → IsSoundRun xs o → (s : Point) (q : State) → Holds f normal (read_origin xs o) s.next s.carried q →
      Simulates w d (Decides f normal) xs o s.next (optional_tested e s) (optional_test c e q)
  optional-sim no_expr k xs o r s q h =
      sim-goes w d (Line f normal q (Num 1)) (Decides f normal) xs o s.next (const_made 1 s) (Returned tt []) (λ _. record { truth = true; state = q })
      (λ y o' m. (m.post.0, (1, held-is (read_origin xs o') _ (Num 1) _ tt m.post.1, m.post.1.below, refl))) (const-line w d f normal xs o s q h 1)
  optional-sim (some_expr e) k xs o r s q h = k xs o r s q h

  -- no other turn
  ends-sim : (flow : Flow) (xs : List Datum) (o : Outputs) → IsSoundRun xs o → (s : Point) (q : State) → Holds f flow (read_origin xs o) s.next s.carried q →
      Simulates w d (Turns f) xs o s.next (const_made 0 s) (Returned (record { again = false; flow = flow; state = q }) [])
  ends-sim flow xs o r s q h =
      sim-goes w d (Line f flow q (Num 0)) (Turns f) xs o s.next (const_made 0 s) (Returned tt []) (λ _. record { again = false; flow = flow; state = q })
      (λ y o' m. (m.post.0, ((0, held-is (read_origin xs o') _ (Num 0) _ tt m.post.1, refl), λ e. absurd (false≢true e)))) (const-line w d f flow xs o s q h 0)

  -- what is made of a turn, once the condition holds
  abbrev InnerClaim : (Point → Built Origin) → (may : Bool) → (State → Answer Turned) → Type 0
  InnerClaim made may inner =
      (xs : List Datum) (o : Outputs) → IsSoundRun xs o → (s : Point) (q : State) → Holds f normal (read_origin xs o) s.next s.carried q → MayJump s.carried.form may →
      Simulates w d (Turns f) xs o s.next (made s) (inner q)

  turn-sim : (e step : OptionalExpr) (l may : Bool) (made : Point → Built (Unit {0})) (inner : State → Answer Turned) → Keeps made → OptionalClaim e →
      InnerClaim (λ u. bind (made u) (λ _ v. again_made l step v)) may inner → InnerClaim (turn_made e step l made) may (while_turn c e inner)
  turn-sim e step l may made inner keeps ce ci xs o r s q h j =
      sim-bind w d fit.sound (Decides f normal) (Turns f) xs o s.next r first (λ p t. choice one_value t p (const_made 0) (λ u. bind (made u) (λ _ v. again_made l step v))) (optional_test c e q)
      (ways inner over) (optional-sim e ce xs o r s q h) (λ y o' r' m.
      ways-sim w d f (λ y. y.flow) (λ y. y.state) TurnsOn TurnsOn one_value xs o' r' first.after first.value (const_made 0) (λ u. bind (made u) (λ _ v. again_made l step v)) normal y inner over
      (turns-give xs o' first.after.next) (const_later 0) (λ u. bind_later u (made u) (λ _ v. again_made l step v) (keeps u) (λ _. again_later l step)) m.post
      (λ us n r'' h'. ci us no_outputs r'' (inside first.after.carried n) y.state h' (may-inside first.after.carried n may (may-later s first.after may (optional_later e s) j)))
      (λ us n r'' h'. ends-sim normal us no_outputs r'' (inside first.after.carried n) y.state h'))
    where
      first : Built Origin
      first = optional_tested e s

  cut-any : {B A : Type 0} → (Q : Post B A) (xs : List Datum) (o : Outputs) (n : ℕ) (b : Built A) → w ≡ Forward → Simulates w d Q xs o n b (Cut [])
  cut-any Q xs o n b e =
      subst (λ z. Refines exactly z (Ran Q xs o n b) (Cut []) (nodes_run d (nodes_of b.nodes) xs o)) (sym e)
      (less-cut exactly exactly-compares Forward (Ran Q xs o n b) 0 (omega arith) (nodes_run d (nodes_of b.nodes) xs o))

  -- the body of a loop and what follows it
  body-sim : (vs : List VariableTree) (a : StmtTree) → StmtClaim w functions c d fit f vs a → (after_made : Point → Built Origin) (after_run : Flow → State → Answer Turned) →
      ((flow : Flow) → (can_leave (stmt_exits a) ≡ false → flow ≡ normal) → (xs : List Datum) (o : Outputs) → IsSoundRun xs o → (s : Point) (q : State) → Holds f flow
      (read_origin xs o) s.next s.carried q →
      MayJump s.carried.form (can_leave (stmt_exits a)) → Simulates w d (Turns f) xs o s.next (after_made s) (after_run flow q)) →
      InnerClaim (λ u. bind (stmt_made vs a u) (λ _ v. after_made v)) (stmt_jumps a) (λ q. then_on (stmt_run c vs a q) (λ x. after_run x.flow x.state))
  body-sim vs a k after_made after_run after xs o r s q h j =
      sim-bind w d fit.sound (λ y rd t v. Allows (stmt_exits a) y.flow × Flows f y rd t v) (Turns f) xs o s.next r (stmt_made vs a s) (λ _ v. after_made v) (stmt_run c vs a q)
      (λ x. after_run x.flow x.state)
      (sim-gives w d f (λ y. Allows (stmt_exits a) y.flow) (Flows f) xs o s.next (stmt_made vs a s) (stmt_run c vs a q) (stmt-ends c vs a q) (k xs o r s q h j))
      (λ y o' r' m. after y.flow (λ n. allows-normal (stmt_exits a) y.flow n m.post.0) xs o' r' (stmt_made vs a s).after y.state m.post.1.0
      (may-later s (stmt_made vs a s).after (can_leave (stmt_exits a)) (stmt_later vs a s) (stmt_leaves s.carried.form a j)))

  -- ---- loops

  abbrev Loops : (StmtTree) → Post Flowed (Unit {0})
  Loops a y rd t v = Left (stmt_exits a) y.flow × Flows f y rd t v

  past-sim : (vs : List VariableTree) (a : StmtTree) (xs : List Datum) (o : Outputs) → IsSoundRun xs o → (s : Point) → MayJump s.carried.form (stmt_jumps a) → (body : Point → Built Origin) →
      Keeps body →
      (x : Answer Flowed) → Simulates w d (Loops a) xs o s.next (repeat s body) x →
      Simulates w d (Flows f) xs o s.next (bind (repeat s body) (λ _ t. break_ended (can_leave (stmt_exits a)) t)) (then_on x past)
  past-sim vs a xs o r s j body keeps x k =
      sim-bind w d fit.sound (Loops a) (Flows f) xs o s.next r (repeat s body) (λ _ t. break_ended (can_leave (stmt_exits a)) t) x past k (λ y o' r' m.
      break-ended-sim w functions c d fit f (can_leave (stmt_exits a)) y.flow (λ n. let z = left-normal (stmt_exits a) y.flow n m.post.0 in ap past_flow z ∙ sym z) xs o' r'
      (repeat s body).after y.state m.post.1.0
      (may-later s (repeat s body).after (can_leave (stmt_exits a)) (repeat_later s body keeps) (stmt_leaves s.carried.form a j)))

  pub loop-stmt : (vs : List VariableTree) (e step : OptionalExpr) (a : StmtTree) → OptionalClaim e → StepClaim w functions c d fit f step → StmtClaim w functions c d fit f vs a →
      StmtClaim w functions c d fit f vs (loop e step a)
  loop-stmt vs e step a ce cs ca xs o r s q h j =
      past-sim vs a xs o r s j made keeps (loop_run c.bound c e step (stmt_run c vs a) q)
      (sim-gives w d f (λ y. Left (stmt_exits a) y.flow) (Flows f) xs o s.next (repeat s made) (loop_run c.bound c e step (stmt_run c vs a) q)
      (loop-left (stmt_exits a) c.bound c e step (stmt_run c vs a) (stmt-ends c vs a) q)
      (repeat-sim w d fit.sound f s made keeps (while_turn c e inner) (while_turn c e (λ u. Cut [])) (λ n. loop_run n c e step (stmt_run c vs a)) is
      (λ us r' q' h'.
      turn-sim e step l (stmt_jumps a) (stmt_made vs a) inner (stmt_later vs a) ce
      (body-sim vs a ca (again_made l step) (stepped_turn c step) (λ flow n. again-sim l step cs flow n)) us no_outputs r' (inside s.carried (suc s.next)) q' h'
      (may-inside s.carried (suc s.next) (stmt_jumps a) j))
      (λ z us r' q' h'.
      turn-sim e step l (stmt_jumps a) (stmt_made vs a) (λ u. Cut []) (stmt_later vs a) ce
      (λ xs' o' r'' s' q'' h'' j'. cut-any (Turns f) xs' o' s'.next (bind (stmt_made vs a s') (λ _ v. again_made l step v)) z) us no_outputs r' (inside s.carried (suc s.next)) q' h'
      (may-inside s.carried (suc s.next) (stmt_jumps a) j))
      c.bound fit.bounds xs o r q h))
    where
      l : Bool
      l = can_leave (stmt_exits a)

      made : Point → Built Origin
      made = turn_made e step l (stmt_made vs a)

      keeps : Keeps made
      keeps = turn_later e step l (stmt_made vs a) (stmt_later vs a)

      inner : State → Answer Turned
      inner u = then_on (stmt_run c vs a u) (λ x. stepped_turn c step x.flow x.state)

      is : IsLoop (while_turn c e inner) (while_turn c e (λ u. Cut [])) (λ n. loop_run n c e step (stmt_run c vs a))
      is =
          record {
            more = λ n u. sym (while-turns c e inner (loop_run n c e step (stmt_run c vs a))
                (λ t. then_on (stmt_run c vs a t) (λ x. after_turn x.flow x.state (λ u. then_on (optional_step c step u) (loop_run n c e step (stmt_run c vs a))))) (same n) u);
            none = λ u. sym (while-turns c e (λ u. Cut []) (λ u. Cut []) (λ t. Cut []) (λ u. refl) u);
          }
        where
          same : (n : ℕ) (u : State) → then_on (inner u) (turned (loop_run n c e step (stmt_run c vs a))) ≡
              then_on (stmt_run c vs a u) (λ x. after_turn x.flow x.state (λ u. then_on (optional_step c step u) (loop_run n c e step (stmt_run c vs a))))
          same n u =
              then_associates (stmt_run c vs a u) (λ x. stepped_turn c step x.flow x.state) (turned (loop_run n c e step (stmt_run c vs a)))
              ∙ ap (then_on (stmt_run c vs a u)) (fun_ext (λ x. stepped-turns c step (loop_run n c e step (stmt_run c vs a)) x.flow x.state))

  -- ---- `do`

  -- the condition, which is asked unless the body was left
  asked-sim : (e : ExprTree) → TestClaim w functions c d fit f normal e → (xs : List Datum) (o : Outputs) → IsSoundRun xs o → (s : Point) (q : State) →
      Holds f normal (read_origin xs o) s.next s.carried q →
      Simulates w d (Turns f) xs o s.next (tested e s) (asked_turn c e normal q)
  asked-sim e k xs o r s q h =
      sim-goes w d (Decides f normal) (Turns f) xs o s.next (tested e s) (test_run c e q) (λ y. record { again = y.truth; flow = normal; state = y.state })
      (λ y o' m. (m.post.0, ((m.post.1.0, m.post.1.1, m.post.1.3), λ z. refl))) (k xs o r s q h)

  do-again-sim : (l : Bool) (e : ExprTree) → TestClaim w functions c d fit f normal e → (flow : Flow) → (l ≡ false → flow ≡ normal) → (xs : List Datum) (o : Outputs) → IsSoundRun xs o → (s : Point)
      (q : State) →
      Holds f flow (read_origin xs o) s.next s.carried q → MayJump s.carried.form l → Simulates w d (Turns f) xs o s.next (do_again_made l e s) (asked_turn c e flow q)
  do-again-sim false e k flow n xs o r s q h j =
      subst (λ x. Simulates w d (Turns f) xs o s.next (tested e s) (asked_turn c e x q)) (sym (n refl))
      (asked-sim e k xs o r s q (subst (λ x. Holds f x (read_origin xs o) s.next s.carried q) (n refl) h))
  do-again-sim true e k flow n xs o r s q h j =
      sim-bind w d fit.sound (Stepped f (resumed flow)) (Turns f) xs o s.next r first (λ _ t. choice one_value t t.carried.go (tested e) (const_made 0)) (Returned q []) (asked_turn c e flow)
      (jump-ended-sim w functions c d fit f 2 flow (resumed flow) refl (resumed-code flow) (resumed-left f.is_main flow) xs o r s q h (jumping-form s.carried.form true j refl))
      (λ y o' r' m. by flow y o' r' m.post.0)
    where
      first : Built (Unit {0})
      first = jump_ended 2 s

      form : first.after.carried.form ≡ jumping
      form = (jump_ended_later 2 s).form ∙ jumping-form s.carried.form true j refl

      chosen : (flow : Flow) (m : ℕ) → code flow ≡ m → (y : State) (o' : Outputs) → IsSoundRun xs o' → (a : Answer Turned) → Holds f flow (read_origin xs o') first.after.next first.after.carried y →
          ((us : List Datum) (n : ℕ) → IsSoundRun us no_outputs → Holds f flow (read_origin us no_outputs) n (inside first.after.carried n).carried y →
          Simulates w d (Turns f) us no_outputs n (picked m (tested e) (const_made 0) (inside first.after.carried n)) a) →
          Simulates w d (Turns f) xs o' first.after.next (choice one_value first.after first.after.carried.go (tested e) (const_made 0)) a
      chosen flow m z y o' r' a h' go =
          choice-sim w d f (λ y. y.flow) (λ y. y.state) TurnsOn TurnsOn one_value xs o' r' first.after first.after.carried.go m (tested e) (const_made 0) a flow y (turns-give xs o' first.after.next)
          (subst (λ k. read_origin xs o' first.after.carried.go ≡ val (Num k)) z
          (jumps-of (read_origin xs o') first.after.next f.is_main flow first.after.carried.form first.after.carried.go first.after.carried.ret form h'.jumps).0)
          (tested_later e) (const_later 0) h' go

      by : (flow : Flow) (y : State) (o' : Outputs) → IsSoundRun xs o' → Holds f (resumed flow) (read_origin xs o') first.after.next first.after.carried y →
          Simulates w d (Turns f) xs o' first.after.next (choice one_value first.after first.after.carried.go (tested e) (const_made 0)) (asked_turn c e flow y)
      by normal y o' r' h' = chosen normal 0 refl y o' r' (asked_turn c e normal y) h' (λ us n r'' h''. asked-sim e k us no_outputs r'' (inside first.after.carried n) y h'')
      by continued y o' r' h' = chosen normal 0 refl y o' r' (asked_turn c e normal y) h' (λ us n r'' h''. asked-sim e k us no_outputs r'' (inside first.after.carried n) y h'')
      by broke y o' r' h' = chosen broke 1 refl y o' r' (asked_turn c e broke y) h' (λ us n r'' h''. ends-sim broke us no_outputs r'' (inside first.after.carried n) y h'')
      by (returned v) y o' r' h' = chosen (returned v) 3 refl y o' r' (asked_turn c e (returned v) y) h' (λ us n r'' h''. ends-sim (returned v) us no_outputs r'' (inside first.after.carried n) y h'')

  pub do-stmt : (vs : List VariableTree) (a : StmtTree) (e : ExprTree) → TestClaim w functions c d fit f normal e → StmtClaim w functions c d fit f vs a →
      StmtClaim w functions c d fit f vs (do_while a e)
  do-stmt vs a e ce ca xs o r s q h j =
      past-sim vs a xs o r s j made keeps (do_run c.bound c e (stmt_run c vs a) q)
      (sim-gives w d f (λ y. Left (stmt_exits a) y.flow) (Flows f) xs o s.next (repeat s made) (do_run c.bound c e (stmt_run c vs a) q)
      (do-left (stmt_exits a) c.bound c e (stmt_run c vs a) (stmt-ends c vs a) q)
      (repeat-sim w d fit.sound f s made keeps turn (λ u. Cut []) (λ n. do_run n c e (stmt_run c vs a)) is
      (λ us r' q' h'.
      body-sim vs a ca (do_again_made l e) (asked_turn c e) (λ flow n. do-again-sim l e ce flow n) us no_outputs r' (inside s.carried (suc s.next)) q' h'
      (may-inside s.carried (suc s.next) (stmt_jumps a) j))
      (λ z us r' q' h'. cut-any (Turns f) us no_outputs (suc s.next) (made (inside s.carried (suc s.next))) z) c.bound fit.bounds xs o r q h))
    where
      l : Bool
      l = can_leave (stmt_exits a)

      made : Point → Built Origin
      made t = bind (stmt_made vs a t) (λ _ u. do_again_made l e u)

      keeps : Keeps made
      keeps t = bind_later t (stmt_made vs a t) (λ _ u. do_again_made l e u) (stmt_later vs a t) (λ _. do_again_later l e)

      turn : State → Answer Turned
      turn u = then_on (stmt_run c vs a u) (λ x. asked_turn c e x.flow x.state)

      is : IsLoop turn (λ u. Cut []) (λ n. do_run n c e (stmt_run c vs a))
      is =
          record {
            more = λ n u. sym (
                then_associates (stmt_run c vs a u) (λ x. asked_turn c e x.flow x.state) (turned (do_run n c e (stmt_run c vs a)))
                ∙ ap (then_on (stmt_run c vs a u)) (fun_ext (λ x. asked-turns c e (do_run n c e (stmt_run c vs a)) x.flow x.state)));
            none = λ u. refl;
          }
