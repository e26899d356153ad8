-- Bodies of functions without `go` and `ret`: a `return` that is last gives the value.
use Rattle.std.proofs.Common.{arith, ◌≡◌, ◌≤◌, ℕ, suc, List, [], refl, sym, ◌∙◌, subst}
use Rattle.std.specs.Prelude.{Bool, true, false, take, length, slice_get, Some, None}
use Rattle.val_core.specs.declared.values.Value.{Value}
use Rattle.val_core.specs.declared.values.Value.TheVariants.{Num, At, Bad}
use Rattle.val_core.specs.Refinement.{Direction, exactly, Refines}
use Rattle.val_core.specs.Answers.{Answer, Returned, then_on}
use Rattle.val_core.proofs.lemmas.Answers.{then_associates, then_nothing}
use Rattle.val_core.proofs.lemmas.Refinement.{exactly-goes, refines-then}
use Rattle.c_typed.specs.Typed.{ExprTree, DeclarationTree, StmtTree, null, value, block, if_else, loop, do_while, break, continue, return_value, return_none, switch, ItemTrees, no_items, stmt_then, declare_then, VariableTree}
use Rattle.c_typed.specs.WellTyped.{Signature, IsScalar, type_of}
use Rattle.c_mean.specs.State.{State, used, with_slots}
use Rattle.c_mean.specs.Expressions as source
use Rattle.c_mean.specs.Expressions.{expr_run, value_or_none}
use Rattle.c_mean.specs.Statements.{normal, returned, Flowed, flows, goes_on, if_normal, out_of_scope, declared, stmt_run, items_run}
use Rattle.c_mean.specs.Run.{value_at_end}
use Rattle.g_graph.specs.declared.op.Origin.{Origin}
use Rattle.g_graph.specs.Plain.{nodes_of}
use Rattle.g_build_def.specs.Writer.{straight, jumping, Point, Built, bind, given, nothing, with_jumps}
use Rattle.g_build_def.specs.Operations.{const_made, undef_made}
use Rattle.g_build_def.specs.Expressions.{expr_made}
use Rattle.g_build_def.specs.Exits.{stmt_jumps, is_return, some_items, items_jump}
use Rattle.g_build_def.specs.Statements.{declared_made, stmt_made, items_made}
use Rattle.g_build_def.specs.Functions.{end_value, straight_then, straight_made, jumps_begun}
use Rattle.g_build_def.proofs.lemmas.LaterStatements.{stmt_later, declared_later, items_later}
use Rattle.g_build_keeps.proofs.lemmas.Exits.{MayJump}
use Rattle.g_build_keeps.proofs.lemmas.Bodies.{may_stay}
use Rattle.g_mean.specs.Data.{Datum, memory, input}
use Rattle.g_mean.specs.Meaning.{Context, Outputs, read as read_origin, nodes_run}
use Rattle.g_build_keeps.proofs.Readings.{Stay, IsSoundRun}
use Rattle.g_build_keeps.proofs.Toolbox.{Post, Ran, Simulates, sim-goes, sim-bind, sim-given}
use Rattle.g_build_keeps.proofs.Held.{Held, shown-held, JumpsHeld, Holds, held-is}
use Rattle.g_build_keeps.proofs.Nodes.{Line, const-line, undef-line, line-then, held-after}
use Rattle.g_build_keeps.proofs.Claims.{ContextsFit, Typed}
use Rattle.g_build_keeps.proofs.Forms.{ExprClaim}
use Rattle.g_build_keeps.proofs.Jumps.{Flows, jumps-of}
use Rattle.g_build_keeps.proofs.Statements.{StmtClaim, ItemsClaim}
use Rattle.g_build_keeps.proofs.Turns.{Stepped}
use Rattle.g_build_keeps.proofs.Declarations.{framed, DeclarationClaim}

-- The states after a body are carried, and what the function gives.
abbrev pub Ends : (is_main : Bool) → Post Flowed Origin
Ends m y rd t p = (rd t.carried.memory ≡ memory y.state.memory) × (rd t.carried.io ≡ input y.state.input) × Held rd t.next (value_or_none (value_at_end m y.flow)) p

-- a statement that gives no value by itself
abbrev IsPlain : (follows : Bool) → StmtTree → Type 0
IsPlain true a = Unit {0}
IsPlain false a = is_return a ≡ false

plain-then : (follows : Bool) (vs : List VariableTree) (a : StmtTree) (rest : Point → Built Origin) (s : Point) → IsPlain follows a → straight_then follows vs a rest s ≡ bind (stmt_made vs a s)
    (λ _ t. rest t)
plain-then true vs a rest s h = refl
plain-then false vs (return_value e) rest s h = absurd cc
plain-then false vs return_none rest s h = absurd cc
plain-then false vs null rest s h = refl
plain-then false vs (value e) rest s h = refl
plain-then false vs (block is) rest s h = refl
plain-then false vs (if_else e a b) rest s h = refl
plain-then false vs (loop e step a) rest s h = refl
plain-then false vs (do_while a e) rest s h = refl
plain-then false vs break rest s h = refl
plain-then false vs continue rest s h = refl
plain-then false vs (switch e gs) rest s h = refl

module _ (w : Direction) (functions : List Signature) (c : source.Context) (d : Context) (fit : ContextsFit w functions c d) (m : Bool) where
  -- the source goes on where the graph does nothing more
  sim-alone : {B C A : Type 0} → (Q : Post B A) (S : Post C A) (xs : List Datum) (o : Outputs) (k : ℕ) (b : Built A) (x : Answer B) (next : B → Answer C) → Simulates w d Q xs o k b x →
      ((y : B) (o' : Outputs) → Ran Q xs o k b y o' → Refines exactly w (Ran S xs o k b) (next y) (Returned o' [])) → Simulates w d S xs o k b (then_on x next)
  sim-alone Q S xs o k b x next h go =
      subst (λ z. Refines exactly w (Ran S xs o k b) (then_on x next) z) (then_nothing (nodes_run d (nodes_of b.nodes) xs o))
      (refines-then exactly exactly-goes (Ran Q xs o k b) (Ran S xs o k b) w x (nodes_run d (nodes_of b.nodes) xs o) next (λ o'. Returned o' []) h go)

  -- what a body does, from a point of a function whose variables so far are these
  abbrev pub BodyClaim : List VariableTree → ℕ → ItemTrees → Type 0
  BodyClaim vs n is =
      (xs : List Datum) (o : Outputs) → IsSoundRun xs o → (s : Point) (q : State) → Holds (framed [] n m) normal (read_origin xs o) s.next s.carried q → s.carried.form ≡ straight →
      Simulates w d (Ends m) xs o s.next (straight_made m vs is s) (items_run c vs is q)

  pub body-end : (vs : List VariableTree) (n : ℕ) → BodyClaim vs n no_items
  body-end vs n xs o r s q h e = by m h
    where
      by : (m : Bool) → Holds (framed [] n m) normal (read_origin xs o) s.next s.carried q → Simulates w d (Ends m) xs o s.next (end_value m s) (goes_on q)
      by true h =
          sim-goes w d (Line (framed [] n true) normal q (Num 0)) (Ends true) xs o s.next (const_made 0 s) (Returned tt []) (λ _. record { flow = normal; state = q })
          (λ y o' k. (k.post.0.memory, k.post.0.io, k.post.1)) (const-line w d (framed [] n true) normal xs o s q h 0)
      by false h =
          sim-goes w d (Line (framed [] n false) normal q Bad) (Ends false) xs o s.next (undef_made s) (Returned tt []) (λ _. record { flow = normal; state = q })
          (λ y o' k. (k.post.0.memory, k.post.0.io, k.post.1)) (undef-line w d (framed [] n false) normal xs o s q h)

  pub body-value : (vs : List VariableTree) (n : ℕ) (e : ExprTree) → IsScalar (type_of e) → ExprClaim w functions c d fit (framed [] n m) normal e →
      BodyClaim vs n (stmt_then (return_value e) no_items)
  body-value vs n e scalar k xs o r s q h z =
      subst (λ a. Simulates w d (Ends m) xs o s.next (expr_made e s) a)
      (sym (then_associates (expr_run c e q) (λ x. used x.value (λ v. flows x.state (returned (Some v)))) (λ x. if_normal x.flow x.state (items_run c vs no_items))))
      (sim-alone (Typed (framed [] n m) normal (type_of e)) (Ends m) xs o s.next (expr_made e s) (expr_run c e q)
      (λ x. then_on (used x.value (λ v. flows x.state (returned (Some v)))) (λ x. if_normal x.flow x.state (items_run c vs no_items))) (k xs o r s q h)
      (λ y o' t. by y.value y.state o' t.rises t.stay t.post.0
      (shown-held (read_origin xs o') (expr_made e s).after.next (type_of e) y.value (expr_made e s).value scalar t.post.1)))
    where
      by : (v : Value) (u : State) (o' : Outputs) → s.next ≤ (expr_made e s).after.next → Stay s.next o o' →
          Holds (framed [] n m) normal (read_origin xs o') (expr_made e s).after.next (expr_made e s).after.carried u → Held (read_origin xs o') (expr_made e s).after.next v (expr_made e s).value →
          Refines exactly w (Ran (Ends m) xs o s.next (expr_made e s)) (then_on (used v (λ v. flows u (returned (Some v)))) (λ x. if_normal x.flow x.state (items_run c vs no_items))) (Returned o' [])
      by (Num a) u o' up stay h' g = (record { rises = up; stay = stay; post = (h'.memory, h'.io, g) }, refl)
      by (At b a) u o' up stay h' g = (record { rises = up; stay = stay; post = (h'.memory, h'.io, g) }, refl)
      by Bad u o' up stay h' g = tt

  pub body-none : (vs : List VariableTree) (n : ℕ) → BodyClaim vs n (stmt_then return_none no_items)
  body-none vs n xs o r s q h z =
      sim-goes w d (Line (framed [] n m) normal q Bad) (Ends m) xs o s.next (undef_made s) (Returned tt []) (λ _. record { flow = returned None; state = q })
      (λ y o' k. (k.post.0.memory, k.post.0.io, k.post.1)) (undef-line w d (framed [] n m) normal xs o s q h)

  -- a statement that does not return, and the rest
  pub body-then : (vs : List VariableTree) (n : ℕ) (a : StmtTree) (is : ItemTrees) → IsPlain (some_items is) a → stmt_jumps a ≡ false → StmtClaim w functions c d fit (framed [] n m) vs a →
      BodyClaim vs n is →
      BodyClaim vs n (stmt_then a is)
  body-then vs n a is plain none ca cis xs o r s q h e =
      subst (λ b. Simulates w d (Ends m) xs o s.next b (items_run c vs (stmt_then a is) q)) (sym (plain-then (some_items is) vs a (straight_made m vs is) s plain))
      (sim-bind w d fit.sound (Flows (framed [] n m)) (Ends m) xs o s.next r (stmt_made vs a s) (λ _ t. straight_made m vs is t) (stmt_run c vs a q) (λ x. if_normal x.flow x.state (items_run c vs is))
      (ca xs o r s q h (may_stay s.carried.form (stmt_jumps a) none)) (λ y o' r' t.
      let form : (stmt_made vs a s).after.carried.form ≡ straight = (stmt_later vs a s).form ∙ e in
      let flow : y.flow ≡ normal = subst (λ x. JumpsHeld (read_origin xs o') (stmt_made vs a s).after.next m y.flow x (stmt_made vs a s).after.carried.go
      (stmt_made vs a s).after.carried.ret) form t.post.0.jumps in
      subst (λ x. Simulates w d (Ends m) xs o' (stmt_made vs a s).after.next (straight_made m vs is (stmt_made vs a s).after) (if_normal x y.state (items_run c vs is))) (sym flow)
      (cis xs o' r' (stmt_made vs a s).after y.state (subst (λ x. Holds (framed [] n m) x (read_origin xs o') (stmt_made vs a s).after.next
      (stmt_made vs a s).after.carried y.state) flow t.post.0) form)))

  pub body-declare : (vs : List VariableTree) (n : ℕ) (e : DeclarationTree) (is : ItemTrees) → DeclarationClaim w functions c d fit [] n m vs e → BodyClaim vs (suc n) is →
      BodyClaim vs n (declare_then e is)
  body-declare vs n e is ce cis xs o r s q h z =
      sim-bind w d fit.sound (Stepped (framed [] (suc n) m) normal) (Ends m) xs o s.next r (declared_made vs e s) (λ _ t. straight_made m vs is t)
      (declared c vs e.variable (slice_get vs e.variable) e.initial q)
      (λ t. then_on (items_run c vs is t) (out_of_scope (length q.slots))) (ce xs o r s q h) (λ t o' r' k.
      sim-goes w d (Ends m) (Ends m) xs o' (declared_made vs e s).after.next (straight_made m vs is (declared_made vs e s).after) (items_run c vs is t)
      (λ x. record { flow = x.flow; state = with_slots x.state (take (length q.slots) x.state.slots) }) (λ y o'' k'. k'.post)
      (cis xs o' r' (declared_made vs e s).after t k.post.0 ((declared_later vs e s).form ∙ z)))

  -- ---- functions with `go` and `ret`

  -- `ret` carries what the function gives
  pub jumping-ends : (vs : List VariableTree) (n : ℕ) (is : ItemTrees) → ItemsClaim w functions c d fit (framed [] n m) vs is → (xs : List Datum) (o : Outputs) → IsSoundRun xs o → (s : Point)
      (q : State) →
      Holds (framed [] n m) normal (read_origin xs o) s.next s.carried q → s.carried.form ≡ jumping →
      Simulates w d (Ends m) xs o s.next (bind (items_made vs is s) (λ _ u. given u.carried.ret u)) (items_run c vs is q)
  jumping-ends vs n is k xs o r s q h e =
      subst (λ a. Simulates w d (Ends m) xs o s.next (bind first (λ _ u. given u.carried.ret u)) a) (then_nothing (items_run c vs is q))
      (sim-bind w d fit.sound (Flows (framed [] n m)) (Ends m) xs o s.next r first (λ _ u. given u.carried.ret u) (items_run c vs is q) (λ y. Returned y [])
      (k xs o r s q h (subst (λ x. MayJump x (items_jump is)) (sym e) tt)) (λ y o' r' t.
      let form : first.after.carried.form ≡ jumping = (items_later vs is s).form ∙ e in
      let g = jumps-of (read_origin xs o') first.after.next m y.flow first.after.carried.form first.after.carried.go first.after.carried.ret form t.post.0.jumps in
      sim-given w d (Ends m) xs o' first.after.next first.after.carried.ret first.after y (omega arith) (t.post.0.memory, t.post.0.io, g.2)))
    where
      first : Built (Unit {0})
      first = items_made vs is s

  -- `go` and `ret` begin
  pub jumps-begin : (n : ℕ) (xs : List Datum) (o : Outputs) → IsSoundRun xs o → (s : Point) (q : State) → Holds (framed [] n m) normal (read_origin xs o) s.next s.carried q →
      Simulates w d (Stepped (framed [] n m) normal) xs o s.next (jumps_begun m s) (Returned q [])
  jumps-begin n xs o r s q h =
      line-then w d (framed [] n m) normal fit.sound (Stepped (framed [] n m) normal) xs o s.next r first (λ g t. bind (end_value m t) (λ x u. nothing (with_jumps u jumping g x))) q (Num 0)
      (Returned q [])
      (const-line w d (framed [] n m) normal xs o s q h 0) (λ o1 r1 t1.
      line-then w d (framed [] n m) normal fit.sound (Stepped (framed [] n m) normal) xs o1 first.after.next r1 second (λ x u. nothing (with_jumps u jumping first.value x)) q
      (value_or_none (value_at_end m normal))
      (Returned q []) (ending m o1 t1.post.0) (λ o2 r2 t2.
      sim-given w d (Stepped (framed [] n m) normal) xs o2 second.after.next tt (with_jumps second.after jumping first.value second.value) q (omega arith) (
        record {
          slots = t2.post.0.slots;
          count = t2.post.0.count;
          jumps = (
            held-is (read_origin xs o2) second.after.next (Num 0) first.value tt (held-after (Line (framed [] n m) normal q
                (value_or_none (value_at_end m normal))) xs o1 first.after.next second tt o2 t2 (Num 0) first.value t1.post.1),
            (held-after (Line (framed [] n m) normal q (value_or_none (value_at_end m normal))) xs o1 first.after.next second tt o2 t2 (Num 0) first.value t1.post.1).below,
            t2.post.1,
          );
          memory = t2.post.0.memory;
          memory_below = t2.post.0.memory_below;
          io = t2.post.0.io;
          io_below = t2.post.0.io_below;
        },
        tt,
      )))
    where
      first : Built Origin
      first = const_made 0 s

      second : Built Origin
      second = end_value m first.after

      ending : (b : Bool) (o1 : Outputs) → Holds (framed [] n b) normal (read_origin xs o1) first.after.next first.after.carried q →
          Simulates w d (Line (framed [] n b) normal q (value_or_none (value_at_end b normal))) xs o1 first.after.next (end_value b first.after) (Returned tt [])
      ending true o1 h1 = const-line w d (framed [] n true) normal xs o1 first.after q h1 0
      ending false o1 h1 = undef-line w d (framed [] n false) normal xs o1 first.after q h1
