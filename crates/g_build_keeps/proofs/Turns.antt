-- Turns of loops, in the source and as they are made: what stands around the body.
use Rattle.std.proofs.Common.{◌≡◌, ℕ, List, [], refl, sym, ap, ◌∙◌, subst, arith}
use Rattle.std.proofs.Math.Path.{fun_ext}
use Rattle.std.specs.Prelude.{◌%◌, ◌^◌, Bool, true, false, cond}
use Rattle.val_core.specs.declared.values.Value.TheVariants.{Num}
use Rattle.val_core.specs.declared.operation.Op2.TheVariants as op
use Rattle.val_core.specs.Words.{word2}
use Rattle.val_core.specs.Refinement.{Direction}
use Rattle.val_core.specs.Answers.{Answer, Returned, then_on}
use Rattle.val_core.proofs.lemmas.Answers.{then_associates}
use Rattle.c_typed.specs.Typed.{ExprTree, OptionalExpr, no_expr, some_expr}
use Rattle.c_typed.specs.WellTyped.{Signature, type_of}
use Rattle.c_mean.specs.State.{State}
use Rattle.c_mean.specs.Expressions as source
use Rattle.c_mean.specs.Expressions.{branched, expr_run, value_or_none}
use Rattle.c_mean.specs.Statements.{Flow, normal, broke, continued, returned, Flowed, flows, goes_on, past_flow, after_turn, optional_step, while_true}
use Rattle.c_mean.specs.Run.{value_at_end}
use Rattle.g_graph.specs.declared.op.Origin.{Origin}
use Rattle.g_build_def.specs.Writer.{jumping, Point, with_go, Built, nothing, bind}
use Rattle.g_build_def.specs.Operations.{const_made, bin_made}
use Rattle.g_build_def.specs.Jumps.{jump_ended, break_ended}
use Rattle.g_build_keeps.proofs.lemmas.Exits.{MayJump}
use Rattle.g_mean.specs.Data.{Datum, val}
use Rattle.g_mean.specs.Meaning.{Context, Outputs, read as read_origin}
use Rattle.g_build_keeps.proofs.Readings.{IsSoundRun}
use Rattle.g_build_keeps.proofs.Toolbox.{Post, Simulates, sim-goes, sim-given}
use Rattle.g_build_keeps.proofs.Held.{Held, held-is, code, Frame, Holds}
use Rattle.g_build_keeps.proofs.Nodes.{line-then, const-line, bin-line}
use Rattle.g_build_keeps.proofs.Choice.{After, Nothing}
use Rattle.g_build_keeps.proofs.Tests.{Decided, ways, branched-decides}
use Rattle.g_build_keeps.proofs.Claims.{ContextsFit, test_run}
use Rattle.g_build_keeps.proofs.Forms.{ExprClaim}
use Rattle.g_build_keeps.proofs.Jumps.{Flows, jump-left-same, jumps-of, holds-jump, jumping-form}
use Rattle.g_build_keeps.proofs.Loops.{Turned, turned}

-- ---- in the source

-- a `continue` has ended with the turn
abbrev pub resumed : Flow → Flow
resumed continued = normal
resumed f = f

-- what follows the body in a turn
abbrev pub stepped_turn : source.Context → OptionalExpr → Flow → State → Answer Turned
stepped_turn c step normal s = then_on (optional_step c step s) (λ u. Returned (record { again = true; flow = normal; state = u }) [])
stepped_turn c step continued s = then_on (optional_step c step s) (λ u. Returned (record { again = true; flow = normal; state = u }) [])
stepped_turn c step f s = Returned (record { again = false; flow = f; state = s }) []

abbrev pub asked_turn : source.Context → ExprTree → Flow → State → Answer Turned
asked_turn c e normal s = then_on (test_run c e s) (λ y. Returned (record { again = y.truth; flow = normal; state = y.state }) [])
asked_turn c e continued s = then_on (test_run c e s) (λ y. Returned (record { again = y.truth; flow = normal; state = y.state }) [])
asked_turn c e f s = Returned (record { again = false; flow = f; state = s }) []

-- the condition of a loop, which is true where it is left out
abbrev pub optional_test : source.Context → OptionalExpr → State → Answer Decided
optional_test c no_expr s = Returned (record { truth = true; state = s }) []
optional_test c (some_expr e) s = test_run c e s

-- the loop ends as its condition is false
abbrev pub over : State → Answer Turned
over s = Returned (record { again = false; flow = normal; state = s }) []

abbrev pub while_turn : source.Context → OptionalExpr → (State → Answer Turned) → State → Answer Turned
while_turn c d inner s = then_on (optional_test c d s) (ways inner over)

pub while-turns : (c : source.Context) (d : OptionalExpr) (inner : State → Answer Turned) (next turn : State → Answer Flowed) → ((u : State) → then_on (inner u) (turned next) ≡ turn u) → (s : State) →
    then_on (while_turn c d inner s) (turned next) ≡ while_true c d turn s
while-turns c no_expr inner next turn same s = same s
while-turns c (some_expr e) inner next turn same s =
    then_associates (test_run c e s) (ways inner over) (turned next) ∙ ap (then_on (test_run c e s)) (fun_ext (λ y. by y y.truth)) ∙ branched-decides (expr_run c e s) (type_of e) turn goes_on
  where
    by : (y : Decided) (b : Bool) → then_on (cond b (inner y.state) (over y.state)) (turned next) ≡ cond b (turn y.state) (goes_on y.state)
    by y true = same y.state
    by y false = refl

pub stepped-turns : (c : source.Context) (step : OptionalExpr) (next : State → Answer Flowed) (f : Flow) (s : State) →
    then_on (stepped_turn c step f s) (turned next) ≡ after_turn f s (λ u. then_on (optional_step c step u) next)
stepped-turns c step next normal s = then_associates (optional_step c step s) (λ u. Returned (record { again = true; flow = normal; state = u }) []) (turned next)
stepped-turns c step next continued s = then_associates (optional_step c step s) (λ u. Returned (record { again = true; flow = normal; state = u }) []) (turned next)
stepped-turns c step next broke s = refl
stepped-turns c step next (returned v) s = refl

pub asked-turns : (c : source.Context) (e : ExprTree) (next : State → Answer Flowed) (f : Flow) (s : State) →
    then_on (asked_turn c e f s) (turned next) ≡ after_turn f s (λ t. then_on (expr_run c e t) (λ y. branched (type_of e) y.value (next y.state) (goes_on y.state)))
asked-turns c e next normal s =
    then_associates (test_run c e s) (λ y. Returned (record { again = y.truth; flow = normal; state = y.state }) []) (turned next) ∙ branched-decides (expr_run c e s) (type_of e) next goes_on
asked-turns c e next continued s =
    then_associates (test_run c e s) (λ y. Returned (record { again = y.truth; flow = normal; state = y.state }) []) (turned next) ∙ branched-decides (expr_run c e s) (type_of e) next goes_on
asked-turns c e next broke s = refl
asked-turns c e next (returned v) s = refl

-- ---- as they are made

pub resumed-left : (is_main : Bool) (f : Flow) → value_at_end is_main (resumed f) ≡ value_at_end is_main f
resumed-left is_main normal = refl
resumed-left is_main broke = refl
resumed-left is_main continued = sym (jump-left-same is_main).1
resumed-left is_main (returned v) = refl

past-left-same : (is_main : Bool) (f : Flow) → value_at_end is_main (past_flow f) ≡ value_at_end is_main f
past-left-same is_main normal = refl
past-left-same is_main broke = sym (jump-left-same is_main).0
past-left-same is_main continued = refl
past-left-same is_main (returned v) = refl

pub resumed-code : (f : Flow) → word2 op.Mul (code f) (word2 op.Ne (code f) 2) ≡ code (resumed f)
resumed-code normal = refl
resumed-code broke = refl
resumed-code continued = refl
resumed-code (returned v) = refl

past-code : (f : Flow) → word2 op.Mul (code f) (word2 op.Ne (code f) 1) ≡ code (past_flow f)
past-code normal = refl
past-code broke = refl
past-code continued = refl
past-code (returned v) = refl

-- the state after a step
abbrev pub Stepped : Frame → Flow → Post State (Unit {0})
Stepped f flow = After f (λ (q : State). flow) (λ q. q) Nothing

module _ (w : Direction) (functions : List Signature) (c : source.Context) (d : Context) (fit : ContextsFit w functions c d) (f : Frame) where
  -- `go` becomes 0 where it is this code
  pub jump-ended-sim : (n : ℕ) (flow flow' : Flow) → n % 2 ^ 32 ≡ n → word2 op.Mul (code flow) (word2 op.Ne (code flow) n) ≡ code flow' → value_at_end f.is_main flow' ≡ value_at_end f.is_main flow →
      (xs : List Datum) (o : Outputs) → IsSoundRun xs o → (s : Point) (q : State) → Holds f flow (read_origin xs o) s.next s.carried q → s.carried.form ≡ jumping →
      Simulates w d (Stepped f flow') xs o s.next (jump_ended n s) (Returned q [])
  jump-ended-sim n flow flow' word same left xs o r s q h form =
      line-then w d f flow fit.sound (Stepped f flow') xs o s.next r first
      (λ k t. bind (bin_made op.Ne t.carried.go k t) (λ x u. bind (bin_made op.Mul u.carried.go x u) (λ g v. nothing (with_go v g)))) q (Num (n % 2 ^ 32)) (Returned q [])
      (const-line w d f flow xs o s q h n) (λ o1 r1 m1.
      line-then w d f flow fit.sound (Stepped f flow') xs o1 first.after.next r1 second (λ x u. bind (bin_made op.Mul u.carried.go x u) (λ g v. nothing (with_go v g))) q
      (Num (word2 op.Ne (code flow) (n % 2 ^ 32))) (Returned q [])
      (bin-line w d f flow xs o1 first.after q m1.post.0 op.Ne s.carried.go first.value (Num (code flow)) (Num (n % 2 ^ 32)) (go-of xs o1 first.after.next m1.post.0)
      (held-is (read_origin xs o1) first.after.next (Num (n % 2 ^ 32)) first.value tt m1.post.1)) (λ o2 r2 m2.
      line-then w d f flow fit.sound (Stepped f flow') xs o2 second.after.next r2 third (λ g v. nothing (with_go v g)) q (Num (word2 op.Mul (code flow) (word2 op.Ne (code flow) (n % 2 ^ 32))))
      (Returned q [])
      (bin-line w d f flow xs o2 second.after q m2.post.0 op.Mul s.carried.go second.value (Num (code flow)) (Num (word2 op.Ne (code flow) (n % 2 ^ 32))) (go-of xs o2 second.after.next m2.post.0)
      (held-is (read_origin xs o2) second.after.next (Num (word2 op.Ne (code flow) (n % 2 ^ 32))) second.value tt m2.post.1)) (λ o3 r3 m3.
      let old = jumps-of (read_origin xs o3) third.after.next f.is_main flow s.carried.form s.carried.go s.carried.ret form m3.post.0.jumps in
      sim-given w d (Stepped f flow') xs o3 third.after.next tt (with_go third.after third.value) q (omega arith) (
        holds-jump f flow flow' (read_origin xs o3) third.after.next third.after q third.value s.carried.ret form m3.post.0 (
          subst (λ k. read_origin xs o3 third.value ≡ val (Num k)) (ap (λ k. word2 op.Mul (code flow) (word2 op.Ne (code flow) k)) word ∙ same)
              (held-is (read_origin xs o3) third.after.next (Num (word2 op.Mul (code flow) (word2 op.Ne (code flow) (n % 2 ^ 32)))) third.value tt m3.post.1),
          m3.post.1.below,
          subst (λ v. Held (read_origin xs o3) third.after.next (value_or_none v) s.carried.ret) (sym left) old.2,
        ),
        tt,
      ))))
    where
      first : Built Origin
      first = const_made n s

      second : Built Origin
      second = bin_made op.Ne s.carried.go first.value first.after

      third : Built Origin
      third = bin_made op.Mul s.carried.go second.value second.after

      go-of : (xs : List Datum) (o' : Outputs) (next : ℕ) → Holds f flow (read_origin xs o') next s.carried q → read_origin xs o' s.carried.go ≡ val (Num (code flow))
      go-of xs o' next h' = (jumps-of (read_origin xs o') next f.is_main flow s.carried.form s.carried.go s.carried.ret form h'.jumps).0

  -- a loop or a `switch` has ended
  pub break-ended-sim : (l : Bool) (flow : Flow) → (l ≡ false → past_flow flow ≡ flow) → (xs : List Datum) (o : Outputs) → IsSoundRun xs o → (s : Point) (q : State) →
      Holds f flow (read_origin xs o) s.next s.carried q → MayJump s.carried.form l → Simulates w d (Flows f) xs o s.next (break_ended l s) (flows q (past_flow flow))
  break-ended-sim true flow n xs o r s q h j =
      sim-goes w d (Stepped f (past_flow flow)) (Flows f) xs o s.next (jump_ended 1 s) (Returned q []) (λ u. record { flow = past_flow flow; state = u }) (λ y o' m. m.post)
      (jump-ended-sim 1 flow (past_flow flow) refl (past-code flow) (past-left-same f.is_main flow) xs o r s q h (jumping-form s.carried.form true j refl))
  break-ended-sim false flow n xs o r s q h j =
      subst (λ x. Simulates w d (Flows f) xs o s.next (nothing s) (flows q x)) (sym (n refl)) (sim-given w d (Flows f) xs o s.next tt s (record { flow = flow; state = q }) (omega arith) (h, tt))

  -- ---- the step

  abbrev pub StepClaim : OptionalExpr → Type 0
  StepClaim no_expr = Unit {0}
  StepClaim (some_expr e) = ExprClaim w functions c d fit f normal e
