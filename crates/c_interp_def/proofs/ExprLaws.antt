-- What an expression or a place does is what the tasks do that it comes to.
use Rattle.std.proofs.Common.{◌≡◌, ℕ, suc, List, [], ◌∷◌, ◌++◌, take, drop, length, reverse, slice_get, Option, None, Some, refl, sym, ap, subst, ◌∙◌, append_assoc}
use Rattle.std.proofs.lemmas.List.{reverse-append, reverse-reverse, length-reverse}
use Rattle.std.proofs.Math.Seq.{take-append_seam, drop-append_seam}
use Rattle.val_core.specs.declared.values.Value.{Value}
use Rattle.val_core.specs.declared.values.Value.TheVariants.{Num, At, Bad}
use Rattle.val_core.specs.Answers.{Answer, Returned, Cut, Exited, Undefined, Gives, then_on, on_defined}
use Rattle.val_core.proofs.lemmas.Answers.{then_associates, then_on_given, gives-then}
use Rattle.c_type.specs.Trees.{TypeTree}
use Rattle.c_typed.specs.declared.operator.UnaryOp.{UnaryOp}
use Rattle.c_typed.specs.declared.operator.UnaryOp.TheVariants as unary_op
use Rattle.c_typed.specs.declared.operator.BinaryOp.{BinaryOp}
use Rattle.c_typed.specs.declared.operator.CompoundOp.{CompoundOp}
use Rattle.c_typed.specs.declared.operator.IncDec.{IncDec}
use Rattle.c_typed.specs.Typed as tree
use Rattle.c_typed.specs.Typed.{ExprTree, expr, ExprTrees, no_exprs, expr_then, PlaceTree, place, PlaceFormTree, FormTree, ProgramTree}
use Rattle.c_typed.specs.WellTyped.{type_of}
use Rattle.c_mean.specs.State.{State, Valued, used, member_address}
use Rattle.c_mean.specs.Expressions.{Context, Spot, found, slot_spot, in_slot, at_address, Located, Arguments, spot_read, spot_written, address_of, member_spot, given_word, unary_done, binary_done, back_from, branched, expr_run, dropped_run, arguments_run, place_run}
use Rattle.c_interp_def.specs.Configurations.{Configuration, Reached, state_of, with_operands, with_value, with_state, gives_value, goes_on_at, context_of}
use Rattle.c_interp_def.specs.ExprTasks.{ExprTask, evaluate, drop_each, pass_each, store_slot, store_at, compound_at, compound_slot, step_at, step_slot, and_also, or_else, choose, unary, binary, call, write_byte, end_program, load_from, load_at, use_it, member_at, discard, address_run, compound_written, step_written, newest, expr_task_run, value_slot, read_tasks, assign_tasks, compound_tasks, step_tasks, unary_tasks, count_of}
use Rattle.c_interp_def.specs.StmtTasks.{of_expr, task_run, tasks_run}
use Rattle.c_interp_def.specs.Laws.{normally, of_exprs, ExpressionExpands, PlaceExpands, DroppedExpand, PassedExpand}
use Rattle.c_interp_def.proofs.Steps.{on, both, two, three, used-then, branched-then}
use Rattle.c_interp_def.proofs.PlaceLaws.{in-slot, at-address, at_value}

module _ (p : ProgramTree) (n : ℕ) where
  -- the context and the state of a configuration
  abbrev ctx : Configuration → Context
  ctx x = context_of p n x.frame

  abbrev ran : Configuration → ExprTree → State → Answer Valued
  ran x e s = expr_run (ctx x) e s

  abbrev done : ExprTask → Reached → Answer Reached
  done t r = task_run p n (of_expr t) r

  abbrev all_done : List ExprTask → Configuration → Answer Reached
  all_done ts x = tasks_run p n (of_exprs ts) (normally x)

  -- ---- places that are read and written

  read-law : (x : Configuration) (t : TypeTree) (q : PlaceTree) (o : Option ℕ) → value_slot x.frame.slots q ≡ o → expr_task_run p n (evaluate (expr t (tree.read q))) x ≡ all_done (read_tasks t q o) x
  read-law x t q (Some k) e = ap (λ a. then_on (then_on a (λ r. spot_read t r.spot r.state)) (gives_value x)) (in-slot (ctx x) q k (state_of x) e)
  read-law x t q None e =
      ap (λ a. then_on a (gives_value x)) (at-address (ctx x) q (state_of x) (λ r. spot_read t r.spot r.state) e)
      ∙ both (address_run (ctx x) q (state_of x)) (λ r. spot_read t (at_address r.value) r.state) (gives_value x) (gives_value x) (done (load_from t)) (λ r. refl)

  abbrev assigned : Configuration → TypeTree → ExprTree → Located → Answer Valued
  assigned x t e r = then_on (ran x e r.state) (λ y. used y.value (λ v. spot_written t r.spot v y.state))

  assign-law : (x : Configuration) (t : TypeTree) (q : PlaceTree) (e : ExprTree) (o : Option ℕ) → value_slot x.frame.slots q ≡ o → expr_task_run p n (evaluate (expr t (tree.assign q e))) x
      ≡ all_done (assign_tasks t q e o) x
  assign-law x t q e (Some k) h =
      ap (λ a. then_on (then_on a (assigned x t e)) (gives_value x)) (in-slot (ctx x) q k (state_of x) h)
      ∙ both (ran x e (state_of x)) (λ y. used y.value (λ v. spot_written t (in_slot k) v y.state)) (gives_value x) (gives_value x) (done (store_slot k t))
      (λ y. used-then y.value (λ v. spot_written t (in_slot k) v y.state) (gives_value x))
  assign-law x t q e None h =
      ap (λ a. then_on a (gives_value x)) (at-address (ctx x) q (state_of x) (assigned x t e) h)
      ∙ then_associates (address_run (ctx x) q (state_of x)) (λ r. at_value (assigned x t e) r.value r.state) (gives_value x)
      ∙ on (address_run (ctx x) q (state_of x))
      (λ r. then_on (at_value (assigned x t e) r.value r.state) (gives_value x))
      (λ r. then_on (then_on (gives_value x r) (done (evaluate e))) (done (store_at t)))
      (λ r.
      both (ran x e r.state) (λ y. used y.value (λ v. spot_written t (at_address r.value) v y.state)) (gives_value x) (gives_value (with_value x r)) (done (store_at t))
      (λ y. used-then y.value (λ v. spot_written t (at_address r.value) v y.state) (gives_value x)))
      ∙ sym (two (address_run (ctx x) q (state_of x)) (gives_value x) (done (evaluate e)) (done (store_at t)))

  abbrev compounded : Configuration → CompoundOp → TypeTree → ExprTree → Located → Answer Valued
  compounded x o t e r = then_on (spot_read t r.spot r.state) (λ old. then_on (ran x e old.state) (λ y. compound_written o t (type_of e) r.spot old.value y.value y.state))

  compound-law : (x : Configuration) (o : CompoundOp) (t : TypeTree) (q : PlaceTree) (e : ExprTree) (k : Option ℕ) → value_slot x.frame.slots q ≡ k →
      expr_task_run p n (evaluate (expr t (tree.compound o q e))) x ≡ all_done (compound_tasks o t q e k) x
  compound-law x o t q e (Some k) h =
      let read : Answer Valued = spot_read t (in_slot k) (state_of x) in
      let next : Valued → Answer Valued = λ old. then_on (ran x e old.state) (λ y. compound_written o t (type_of e) (in_slot k) old.value y.value y.state) in
      ap (λ a. then_on (then_on a (compounded x o t e)) (gives_value x)) (in-slot (ctx x) q k (state_of x) h)
      ∙ then_associates read next (gives_value x)
      ∙ on read (λ old. then_on (next old) (gives_value x)) (λ old. then_on (then_on (gives_value x old) (done (evaluate e))) (done (compound_slot k o t (type_of e))))
      (λ old.
      both (ran x e old.state) (λ y. compound_written o t (type_of e) (in_slot k) old.value y.value y.state) (gives_value x) (gives_value (with_value x old))
      (done (compound_slot k o t (type_of e))) (λ y. refl))
      ∙ sym (two read (gives_value x) (done (evaluate e)) (done (compound_slot k o t (type_of e))))
  compound-law x o t q e None h =
      let place_at : Answer Valued = address_run (ctx x) q (state_of x) in
      let last : Reached → Answer Reached = done (compound_at o t (type_of e)) in
      let next : (r old : Valued) → Answer Valued = λ r old. then_on (ran x e old.state) (λ y. compound_written o t (type_of e) (at_address r.value) old.value y.value y.state) in
      ap (λ a. then_on a (gives_value x)) (at-address (ctx x) q (state_of x) (compounded x o t e) h)
      ∙ then_associates place_at (λ r. then_on (spot_read t (at_address r.value) r.state) (next r)) (gives_value x)
      ∙ on place_at
      (λ r. then_on (then_on (spot_read t (at_address r.value) r.state) (next r)) (gives_value x))
      (λ r. then_on (then_on (then_on (gives_value x r) (done (load_at t))) (done (evaluate e))) last)
      (λ r.
      then_associates (spot_read t (at_address r.value) r.state) (next r) (gives_value x)
      ∙ on (spot_read t (at_address r.value) r.state)
      (λ old. then_on (next r old) (gives_value x))
      (λ old. then_on (then_on (gives_value (with_value x r) old) (done (evaluate e))) last)
      (λ old.
      both (ran x e old.state) (λ y. compound_written o t (type_of e) (at_address r.value) old.value y.value y.state) (gives_value x) (gives_value (with_value (with_value x r) old)) last (λ y. refl))
      ∙ sym (two (spot_read t (at_address r.value) r.state) (gives_value (with_value x r)) (done (evaluate e)) last))
      ∙ sym (three place_at (gives_value x) (done (load_at t)) (done (evaluate e)) last)

  abbrev incremented : IncDec → TypeTree → Located → Answer Valued
  incremented i t r = then_on (spot_read t r.spot r.state) (λ old. step_written i t r.spot old.value old.state)

  step-law : (x : Configuration) (i : IncDec) (t : TypeTree) (q : PlaceTree) (k : Option ℕ) → value_slot x.frame.slots q ≡ k → expr_task_run p n (evaluate (expr t (tree.inc_dec i q))) x
      ≡ all_done (step_tasks i t q k) x
  step-law x i t q (Some k) h =
      ap (λ a. then_on (then_on a (incremented i t)) (gives_value x)) (in-slot (ctx x) q k (state_of x) h)
      ∙ both (spot_read t (in_slot k) (state_of x)) (λ old. step_written i t (in_slot k) old.value old.state) (gives_value x) (gives_value x) (done (step_slot k i t)) (λ old. refl)
  step-law x i t q None h =
      let place_at : Answer Valued = address_run (ctx x) q (state_of x) in
      ap (λ a. then_on a (gives_value x)) (at-address (ctx x) q (state_of x) (incremented i t) h)
      ∙ then_associates place_at (λ r. at_value (incremented i t) r.value r.state) (gives_value x)
      ∙ on place_at
      (λ r. then_on (at_value (incremented i t) r.value r.state) (gives_value x))
      (λ r. then_on (then_on (gives_value x r) (done (load_at t))) (done (step_at i t)))
      (λ r.
      both (spot_read t (at_address r.value) r.state) (λ old. step_written i t (at_address r.value) old.value old.state) (gives_value x) (gives_value (with_value x r)) (done (step_at i t))
      (λ old. refl))
      ∙ sym (two place_at (gives_value x) (done (load_at t)) (done (step_at i t)))

  -- ---- operators

  put-value : (x : Configuration) (t u : TypeTree) (r : Valued) (v : Value) → then_on (unary_done unary_op.Put t u v r.state) (gives_value x)
      ≡ done write_byte (normally (with_value x (record { value = v; state = r.state })))
  put-value x t u r (Num w) = refl
  put-value x t u r (At b o) = refl
  put-value x t u r Bad = refl

  exit-value : (x : Configuration) (t u : TypeTree) (r : Valued) (v : Value) → then_on (unary_done unary_op.Exit t u v r.state) (gives_value x)
      ≡ done end_program (normally (with_value x (record { value = v; state = r.state })))
  exit-value x t u r (Num w) = refl
  exit-value x t u r (At b o) = refl
  exit-value x t u r Bad = refl

  unary-law : (x : Configuration) (o : UnaryOp) (t : TypeTree) (e : ExprTree) → expr_task_run p n (evaluate (expr t (tree.unary o e))) x ≡ all_done (unary_tasks o t e) x
  unary-law x unary_op.Convert t e = both (ran x e (state_of x)) (λ r. unary_done unary_op.Convert t (type_of e) r.value r.state) (gives_value x) (gives_value x)
      (done (unary unary_op.Convert t (type_of e))) (λ r. refl)
  unary-law x unary_op.Discard t e = both (ran x e (state_of x)) (λ r. unary_done unary_op.Discard t (type_of e) r.value r.state) (gives_value x) (gives_value x)
      (done (unary unary_op.Discard t (type_of e))) (λ r. refl)
  unary-law x unary_op.Negate t e = both (ran x e (state_of x)) (λ r. unary_done unary_op.Negate t (type_of e) r.value r.state) (gives_value x) (gives_value x)
      (done (unary unary_op.Negate t (type_of e))) (λ r. refl)
  unary-law x unary_op.Complement t e = both (ran x e (state_of x)) (λ r. unary_done unary_op.Complement t (type_of e) r.value r.state) (gives_value x) (gives_value x)
      (done (unary unary_op.Complement t (type_of e))) (λ r. refl)
  unary-law x unary_op.LogicalNot t e = both (ran x e (state_of x)) (λ r. unary_done unary_op.LogicalNot t (type_of e) r.value r.state) (gives_value x) (gives_value x)
      (done (unary unary_op.LogicalNot t (type_of e))) (λ r. refl)
  unary-law x unary_op.Put t e = both (ran x e (state_of x)) (λ r. unary_done unary_op.Put t (type_of e) r.value r.state) (gives_value x) (gives_value x) (done write_byte)
      (λ r. put-value x t (type_of e) r r.value)
  unary-law x unary_op.Exit t e = both (ran x e (state_of x)) (λ r. unary_done unary_op.Exit t (type_of e) r.value r.state) (gives_value x) (gives_value x) (done end_program)
      (λ r. exit-value x t (type_of e) r r.value)

  abbrev tested : Configuration → ExprTree → State → Answer Valued
  tested x b s = then_on (ran x b s) (λ y. branched (type_of b) y.value (given_word y.state 1) (given_word y.state 0))

  tested-law : (x y : Configuration) (b : ExprTree) (s : State) → then_on (tested x b s) (gives_value y)
      ≡ then_on (ran x b s) (λ r. then_on (branched (type_of b) r.value (given_word r.state 1) (given_word r.state 0)) (gives_value y))
  tested-law x y b s = then_associates (ran x b s) (λ r. branched (type_of b) r.value (given_word r.state 1) (given_word r.state 0)) (gives_value y)

  and-law : (x : Configuration) (t : TypeTree) (a b : ExprTree) → expr_task_run p n (evaluate (expr t (tree.logical_and a b))) x ≡ all_done (and_also (type_of a) b ∷ evaluate a ∷ []) x
  and-law x t a b =
      both (ran x a (state_of x)) (λ r. branched (type_of a) r.value (tested x b r.state) (given_word r.state 0)) (gives_value x) (gives_value x) (done (and_also (type_of a) b))
      (λ r.
      branched-then (type_of a) r.value (tested x b r.state) (given_word r.state 0) (gives_value x)
      ∙ ap (λ z. branched (type_of a) r.value z (then_on (given_word r.state 0) (gives_value x))) (tested-law x x b r.state))

  or-law : (x : Configuration) (t : TypeTree) (a b : ExprTree) → expr_task_run p n (evaluate (expr t (tree.logical_or a b))) x ≡ all_done (or_else (type_of a) b ∷ evaluate a ∷ []) x
  or-law x t a b =
      both (ran x a (state_of x)) (λ r. branched (type_of a) r.value (given_word r.state 1) (tested x b r.state)) (gives_value x) (gives_value x) (done (or_else (type_of a) b))
      (λ r.
      branched-then (type_of a) r.value (given_word r.state 1) (tested x b r.state) (gives_value x)
      ∙ ap (λ z. branched (type_of a) r.value (then_on (given_word r.state 1) (gives_value x)) z) (tested-law x x b r.state))

  choose-law : (x : Configuration) (t : TypeTree) (d a b : ExprTree) → expr_task_run p n (evaluate (expr t (tree.conditional d a b))) x ≡ all_done (choose (type_of d) a b ∷ evaluate d ∷ []) x
  choose-law x t d a b =
      both (ran x d (state_of x)) (λ r. branched (type_of d) r.value (ran x a r.state) (ran x b r.state)) (gives_value x) (gives_value x) (done (choose (type_of d) a b))
      (λ r. branched-then (type_of d) r.value (ran x a r.state) (ran x b r.state) (gives_value x))

  -- ---- calls

  abbrev counts : ℕ → Arguments → Type 0
  counts k r = length r.values ≡ k

  any-gives : {A : Type 0} (a : Answer A) → Gives (λ r. Unit {0}) a
  any-gives (Returned r o) = tt
  any-gives (Cut o) = tt
  any-gives (Exited o status) = tt
  any-gives (Undefined o) = tt

  abbrev with_first : Value → Arguments → Answer Arguments
  with_first v y = Returned (record { values = v ∷ y.values; state = y.state }) []

  abbrev passed_after : Context → ExprTrees → Value → State → Answer Arguments
  passed_after c es v s = used v (λ w. then_on (arguments_run c es s) (with_first w))

  counted-used : (c : Context) (es : ExprTrees) (s : State) (v : Value) → Gives (counts (count_of es)) (arguments_run c es s) → Gives (counts (suc (count_of es))) (passed_after c es v s)
  counted-used c es s (Num w) h = gives-then (counts (count_of es)) (counts (suc (count_of es))) (arguments_run c es s) (with_first (Num w)) h (λ y k. ap (λ m. suc m) k)
  counted-used c es s (At b o) h = gives-then (counts (count_of es)) (counts (suc (count_of es))) (arguments_run c es s) (with_first (At b o)) h (λ y k. ap (λ m. suc m) k)
  counted-used c es s Bad h = tt

  counted : (c : Context) (es : ExprTrees) (s : State) → Gives (counts (count_of es)) (arguments_run c es s)
  counted c no_exprs s = refl
  counted c (expr_then e es) s =
      gives-then (λ r. Unit {0}) (counts (suc (count_of es))) (expr_run c e s) (λ x. passed_after c es x.value x.state) (any-gives (expr_run c e s))
      (λ x h. counted-used c es x.state x.value (counted c es x.state))

  -- the newest operands are those that were passed
  taken-back : (k : ℕ) (vs ops : List Value) → length vs ≡ k → newest k (reverse vs ++ ops) ≡ vs
  taken-back k vs ops h =
      ap reverse (ap (λ i. take i (reverse vs ++ ops)) (sym h ∙ sym (length-reverse vs)) ∙ take-append_seam (reverse vs) ops) ∙ reverse-reverse vs

  left-over : (k : ℕ) (vs ops : List Value) → length vs ≡ k → drop k (reverse vs ++ ops) ≡ ops
  left-over k vs ops h = ap (λ i. drop i (reverse vs ++ ops)) (sym h ∙ sym (length-reverse vs)) ∙ drop-append_seam (reverse vs) ops

  call-law : (x : Configuration) (t : TypeTree) (f : ℕ) (es : ExprTrees) → expr_task_run p n (evaluate (expr t (tree.call f es))) x ≡ all_done (call f (count_of es) ∷ pass_each es ∷ []) x
  call-law x t f es =
      let args : Answer Arguments = arguments_run (ctx x) es (state_of x) in
      let called_on : Arguments → Answer Valued = λ r. then_on ((ctx x).calls f r.values r.state.memory r.state.input) (back_from r.state) in
      let passed : Arguments → Configuration = λ r. with_state (with_operands x (reverse r.values ++ x.operands)) r.state in
      let last : Arguments → List Value → List Value → Answer Reached =
      λ r vs os. then_on ((ctx x).calls f vs r.state.memory r.state.input) (λ g. then_on (back_from r.state g) (gives_value (with_operands (passed r) os))) in
      then_associates args called_on (gives_value x)
      ∙ then_on_given args (λ r. then_on (called_on r) (gives_value x)) (λ r. last r (newest (count_of es) (reverse r.values ++ x.operands)) (drop (count_of es) (reverse r.values ++ x.operands)))
      (λ r o e.
      let len : length r.values ≡ count_of es = subst (λ a. Gives (counts (count_of es)) a) e (counted (ctx x) es (state_of x)) in
      then_associates ((ctx x).calls f r.values r.state.memory r.state.input) (back_from r.state) (gives_value x)
      ∙ ap (λ vs. last r vs x.operands) (sym (taken-back (count_of es) r.values x.operands len))
      ∙ ap (λ os. last r (newest (count_of es) (reverse r.values ++ x.operands)) os) (sym (left-over (count_of es) r.values x.operands len)))
      ∙ sym (then_associates args (λ r. goes_on_at (with_operands x (reverse r.values ++ x.operands)) r.state) (done (call f (count_of es))))

  -- ---- the laws

  binary-law : (x : Configuration) (o : BinaryOp) (t : TypeTree) (a b : ExprTree) → expr_task_run p n (evaluate (expr t (tree.binary o a b))) x
      ≡ all_done (binary o (type_of a) (type_of b) ∷ evaluate b ∷ evaluate a ∷ []) x
  binary-law x o t a b =
      let last : Reached → Answer Reached = done (binary o (type_of a) (type_of b)) in
      let right : Valued → Answer Valued = λ r. then_on (ran x b r.state) (λ y. binary_done o (type_of a) (type_of b) r.value y.value y.state) in
      then_associates (ran x a (state_of x)) right (gives_value x)
      ∙ on (ran x a (state_of x)) (λ r. then_on (right r) (gives_value x)) (λ r. then_on (then_on (gives_value x r) (done (evaluate b))) last)
      (λ r. both (ran x b r.state) (λ y. binary_done o (type_of a) (type_of b) r.value y.value y.state) (gives_value x) (gives_value (with_value x r)) last (λ y. refl))
      ∙ sym (two (ran x a (state_of x)) (gives_value x) (done (evaluate b)) last)

  comma-law : (x : Configuration) (t : TypeTree) (es : ExprTrees) (e : ExprTree) → expr_task_run p n (evaluate (expr t (tree.comma es e))) x ≡ all_done (evaluate e ∷ drop_each es ∷ []) x
  comma-law x t es e = both (dropped_run (ctx x) es (state_of x)) (expr_run (ctx x) e) (gives_value x) (goes_on_at x) (done (evaluate e)) (λ u. refl)

pub expression-expands : ExpressionExpands
expression-expands p n t (tree.constant w) x = refl
expression-expands p n t (tree.read q) x = read-law p n x t q (value_slot x.frame.slots q) refl
expression-expands p n t (tree.address q) x = refl
expression-expands p n t (tree.unary o e) x = unary-law p n x o t e
expression-expands p n t (tree.binary o a b) x = binary-law p n x o t a b
expression-expands p n t (tree.logical_and a b) x = and-law p n x t a b
expression-expands p n t (tree.logical_or a b) x = or-law p n x t a b
expression-expands p n t (tree.conditional d a b) x = choose-law p n x t d a b
expression-expands p n t (tree.comma es e) x = comma-law p n x t es e
expression-expands p n t (tree.assign q e) x = assign-law p n x t q e (value_slot x.frame.slots q) refl
expression-expands p n t (tree.compound o q e) x = compound-law p n x o t q e (value_slot x.frame.slots q) refl
expression-expands p n t (tree.inc_dec i q) x = step-law p n x i t q (value_slot x.frame.slots q) refl
expression-expands p n t (tree.call f es) x = call-law p n x t f es
expression-expands p n t tree.get x = refl

-- ---- places, dropped operands and arguments

used-address : (x : Configuration) (r : Valued) (v : Value) → then_on (then_on (used v (λ a. found r.state (at_address a))) (λ y. address_of y.spot y.state)) (gives_value x)
    ≡ used v (λ u. gives_value x (record { value = u; state = r.state }))
used-address x r (Num w) = refl
used-address x r (At b o) = refl
used-address x r Bad = refl

member-address : (x : Configuration) (s : State) (o : Option Value) → then_on (then_on (on_defined o (λ v. found s (at_address v))) (λ y. address_of y.spot y.state)) (gives_value x)
    ≡ on_defined o (λ a. gives_value x (record { value = a; state = s }))
member-address x s None = refl
member-address x s (Some v) = refl

member-spot : (p : ProgramTree) (n o : ℕ) (x : Configuration) (at : Spot) (s : State) → then_on (then_on (member_spot at o s) (λ y. address_of y.spot y.state)) (gives_value x)
    ≡ then_on (then_on (address_of at s) (gives_value x)) (task_run p n (of_expr (member_at o)))
member-spot p n o x (in_slot k) s = refl
member-spot p n o x (at_address a) s = member-address x s (member_address a o s.memory)

pub place-expands : PlaceExpands
place-expands p n t (tree.local k) x = then_associates (slot_spot (context_of p n x.frame) k (slice_get x.frame.slots k) (state_of x)) (λ r. address_of r.spot r.state) (gives_value x)
place-expands p n t (tree.global k) x = refl
place-expands p n t (tree.at e) x =
    let run : Answer Valued = expr_run (context_of p n x.frame) e (state_of x) in
    let pointed : Valued → Answer Located = λ r. used r.value (λ a. found r.state (at_address a)) in
    two run pointed (λ y. address_of y.spot y.state) (gives_value x)
    ∙ on run (λ r. then_on (then_on (pointed r) (λ y. address_of y.spot y.state)) (gives_value x)) (λ r. then_on (gives_value x r) (task_run p n (of_expr use_it))) (λ r. used-address x r r.value)
    ∙ sym (then_associates run (gives_value x) (task_run p n (of_expr use_it)))
place-expands p n t (tree.member q o) x =
    let run : Answer Located = place_run (context_of p n x.frame) q (state_of x) in
    two run (λ r. member_spot r.spot o r.state) (λ y. address_of y.spot y.state) (gives_value x)
    ∙ on run (λ r. then_on (then_on (member_spot r.spot o r.state) (λ y. address_of y.spot y.state)) (gives_value x))
    (λ r. then_on (then_on (address_of r.spot r.state) (gives_value x)) (task_run p n (of_expr (member_at o)))) (λ r. member-spot p n o x r.spot r.state)
    ∙ sym (two run (λ y. address_of y.spot y.state) (gives_value x) (task_run p n (of_expr (member_at o))))

pub dropped-expand : DroppedExpand
dropped-expand p n no_exprs x = refl
dropped-expand p n (expr_then e es) x =
    let c : Context = context_of p n x.frame in
    then_associates (expr_run c e (state_of x)) (λ r. dropped_run c es r.state) (goes_on_at x)
    ∙ sym (two (expr_run c e (state_of x)) (gives_value x) (task_run p n (of_expr discard)) (task_run p n (of_expr (drop_each es))))

pushed-once : (v : Value) (vs ops : List Value) → reverse (v ∷ vs) ++ ops ≡ reverse vs ++ (v ∷ ops)
pushed-once v vs ops = ap (λ l. l ++ ops) (reverse-append (v ∷ []) vs) ∙ append_assoc (reverse vs) (v ∷ []) ops

abbrev all-passed : ProgramTree → ℕ → Configuration → Arguments → Answer Reached
all-passed p n x r = goes_on_at (with_operands x (reverse r.values ++ x.operands)) r.state

pass-value : (p : ProgramTree) (n : ℕ) (es : ExprTrees) (x : Configuration) (v : Value) (s : State) →
    then_on (then_on (arguments_run (context_of p n x.frame) es s) (with_first p n v)) (all-passed p n x)
    ≡ task_run p n (of_expr (pass_each es)) (normally (with_value x (record { value = v; state = s })))
pass-value p n es x v s =
    let run : Answer Arguments = arguments_run (context_of p n x.frame) es s in
    then_associates run (with_first p n v) (all-passed p n x)
    ∙ on run
    (λ q. goes_on_at (with_operands x (reverse (v ∷ q.values) ++ x.operands)) q.state)
    (λ q. goes_on_at (with_operands x (reverse q.values ++ (v ∷ x.operands))) q.state)
    (λ q. ap (λ l. goes_on_at (with_operands x l) q.state) (pushed-once v q.values x.operands))

pass-used : (p : ProgramTree) (n : ℕ) (es : ExprTrees) (x : Configuration) (v : Value) (s : State) → then_on (passed_after p n (context_of p n x.frame) es v s) (all-passed p n x)
    ≡ then_on (task_run p n (of_expr use_it) (normally (with_value x (record { value = v; state = s })))) (task_run p n (of_expr (pass_each es)))
pass-used p n es x (Num w) s = pass-value p n es x (Num w) s
pass-used p n es x (At b o) s = pass-value p n es x (At b o) s
pass-used p n es x Bad s = refl

pub passed-expand : PassedExpand
passed-expand p n no_exprs x = refl
passed-expand p n (expr_then e es) x =
    let c : Context = context_of p n x.frame in
    let run : Answer Valued = expr_run c e (state_of x) in
    let rest : Reached → Answer Reached = task_run p n (of_expr (pass_each es)) in
    then_associates run (λ r. passed_after p n c es r.value r.state) (all-passed p n x)
    ∙ on run (λ r. then_on (passed_after p n c es r.value r.state) (all-passed p n x)) (λ r. then_on (then_on (gives_value x r) (task_run p n (of_expr use_it))) rest)
    (λ r. pass-used p n es x r.value r.state)
    ∙ sym (two run (gives_value x) (task_run p n (of_expr use_it)) rest)
