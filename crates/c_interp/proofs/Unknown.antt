-- Expressions and places that are not known at once: each becomes the task of its operator, and its operands come first.
use Rattle.std.proofs.Common.{Vec, Global, ◌≡◌, ℕ, not, Bool, true, false, if◌then◌else◌, List, [], ◌∷◌, ◌++◌, refl, sym, ap, ◌∙◌}
use Rattle.std.specs.Prelude.{Option, None, Some, slice_get, slice_set, Result, Err}
use Rattle.val_core.specs.declared.values.Value.{Value}
use Rattle.val_core.specs.declared.values.Value.TheVariants.{Num, At, Bad}
use Rattle.val_core.specs.Memory.{Memory, load}
use Rattle.val_core.specs.Answers.{Answer, Undefined, then_on, on_defined}
use Rattle.val_core.specs.Words.{one_if}
use Rattle.val_core.proofs.lemmas.Answers.{then_associates, then_on_given}
use Rattle.c_type.specs.Trees.{TypeTree}
use Rattle.c_typed.specs.declared.operator.UnaryOp.{UnaryOp}
use Rattle.c_typed.specs.declared.operator.UnaryOp.TheVariants as unary_op
use Rattle.c_typed.specs.declared.operator.IncDec.{IncDec}
use Rattle.c_typed.specs.Typed as tree
use Rattle.c_typed.specs.Typed.{ExprTree, expr, ExprTrees, PlaceTree, place, PlaceFormTree, ProgramTree}
use Rattle.c_typed.specs.WellTyped.{type_of}
use Rattle.c_typed.specs.Objects.{access_width}
use Rattle.c_mean.specs.State.{holds, State, Valued, truth}
use Rattle.c_mean.specs.Expressions.{address_of, given_word, branched, expr_run}
use Rattle.c_interp_store.specs.Holding.{Opened, Holds}
use Rattle.c_interp_store.specs.Operators.{used_value}
use Rattle.c_interp_def.specs.Configurations.{Configuration, Reached, state_of, gives_value, with_operands}
use Rattle.c_interp_def.specs.ExprTasks as task
use Rattle.c_interp_def.specs.ExprTasks.{context, value_slot, unary_tasks, read_tasks, assign_tasks, step_tasks, expr_task_run}
use Rattle.c_interp_def.specs.StmtTasks.{Task, of_expr, task_run, tasks_run}
use Rattle.c_interp_def.specs.Laws.{of_exprs, normally}
use Rattle.c_interp_def.proofs.ExprLaws.{expression-expands, place-expands}
use Rattle.c_interp_def.specs.declared.task.Slot.{Slot as CodeSlot}
use Rattle.c_interp_answer.specs.TaskViews.{slots_of}
use Rattle.c_interp_answer.specs.declared.assignment.Assignment.{Assignment}
use Rattle.c_interp_answer.specs.Answered.{IsValue, IsAddress, IsTruth, IsWritten, HasTruth, place_slot}
use Rattle.c_interp.specs.declared.stop.Stop.{Stop}
use Rattle.c_interp.specs.declared.stop.Stop.TheVariants as stop
use Rattle.c_interp.specs.declared.machine.Machine.{Machine}
use Rattle.c_interp.specs.Machines.{config_of, IsHeld}
use Rattle.c_interp.specs.Known.{Knows}
use Rattle.c_interp.specs.Steps.{IsStep, tasks_do, give_run, tested_run, passed_then, with_frame_slots, loaded_value, slot_read}
use Rattle.c_interp.proofs.Steps.{calls_in, with_ops, newest-one, moved, same_step, undefined_step}
use Rattle.c_interp.proofs.StmtSteps.{with_slots}
use Rattle.c_interp.proofs.Operators.{tested, slot-gives, read-gives}
use Rattle.c_interp.proofs.Performed.{slot-is}

abbrev pub type_in : PlaceTree → TypeTree
type_in (place t f) = t

abbrev pub place_form_in : PlaceTree → PlaceFormTree
place_form_in (place t f) = f

pub place-whole : (q : PlaceTree) (f : PlaceFormTree) → place_form_in q ≡ f → q ≡ place (type_in q) f
place-whole (place t g) f e = ap (place t) e

decided : {A : Type 0} (t : TypeTree) (v : Value) (d : Bool) (a b : Answer A) → truth t v ≡ Some d → branched t v a b ≡ (if d then a else b)
decided t v d a b h = ap (λ o. on_defined o (λ x. if x then a else b)) h

module _ (p : ProgramTree) (n : ℕ) (r : Result Unit Stop) (old new : Machine) (t : TypeTree) where
  -- ---- operators

  pub unary_put : (o : UnaryOp) (a : ExprTree) (w : Task) → of_exprs (unary_tasks o t a) ≡ w ∷ of_expr (task.evaluate a) ∷ [] →
      IsStep p n r old new (λ x. then_on (expr_task_run p n (task.evaluate a) x) (task_run p n w)) → IsStep p n r old new (expr_task_run p n (task.evaluate (expr t (tree.unary o a))))
  unary_put o a w is step =
      same_step p n r old new (expr_task_run p n (task.evaluate (expr t (tree.unary o a)))) (λ x. then_on (expr_task_run p n (task.evaluate a) x) (task_run p n w))
      (λ m i held. let x : Configuration = config_of old m i in expression-expands p n t (tree.unary o a) x ∙ ap (λ ts. tasks_run p n ts (normally x)) is) step

  pub and_put : (a b : ExprTree) (w : Task) → w ≡ of_expr (task.and_also (type_of a) b) → IsStep p n r old new (λ x. then_on (expr_task_run p n (task.evaluate a) x) (task_run p n w)) →
      IsStep p n r old new (expr_task_run p n (task.evaluate (expr t (tree.logical_and a b))))
  and_put a b w is step =
      same_step p n r old new (expr_task_run p n (task.evaluate (expr t (tree.logical_and a b)))) (λ x. then_on (expr_task_run p n (task.evaluate a) x) (task_run p n w))
      (λ m i held.
      let x : Configuration = config_of old m i in
      expression-expands p n t (tree.logical_and a b) x ∙ ap (λ z. then_on (expr_task_run p n (task.evaluate a) x) (task_run p n z)) (sym is))
      step

  pub or_put : (a b : ExprTree) (w : Task) → w ≡ of_expr (task.or_else (type_of a) b) → IsStep p n r old new (λ x. then_on (expr_task_run p n (task.evaluate a) x) (task_run p n w)) →
      IsStep p n r old new (expr_task_run p n (task.evaluate (expr t (tree.logical_or a b))))
  or_put a b w is step =
      same_step p n r old new (expr_task_run p n (task.evaluate (expr t (tree.logical_or a b)))) (λ x. then_on (expr_task_run p n (task.evaluate a) x) (task_run p n w))
      (λ m i held.
      let x : Configuration = config_of old m i in
      expression-expands p n t (tree.logical_or a b) x ∙ ap (λ z. then_on (expr_task_run p n (task.evaluate a) x) (task_run p n z)) (sym is))
      step

  pub tested_put : (b : ExprTree) (w : Task) → w ≡ of_expr (task.test (type_of b)) → IsStep p n r old new (λ x. then_on (expr_task_run p n (task.evaluate b) x) (task_run p n w)) → IsStep p n r old new (tested_run p n b)
  tested_put b w is step =
      same_step p n r old new (tested_run p n b) (λ x. then_on (expr_task_run p n (task.evaluate b) x) (task_run p n w))
      (λ m i held. ap (λ z. then_on (expr_task_run p n (task.evaluate b) (config_of old m i)) (task_run p n z)) (sym is)) step

  -- the value of `!` is its truth
  bit-tested : (o : Option Bool) (s : State) (x : Configuration) →
      then_on (on_defined o (λ d. given_word s (one_if (not d)))) (λ r. then_on (branched t r.value (given_word r.state 1) (given_word r.state 0)) (gives_value x))
      ≡ then_on (on_defined o (λ d. given_word s (one_if (not d)))) (gives_value x)
  bit-tested None s x = refl
  bit-tested (Some true) s x = refl
  bit-tested (Some false) s x = refl

  not-tested : (a : ExprTree) (x : Configuration) → let b : ExprTree = expr t (tree.unary unary_op.LogicalNot a) in tested_run p n b x ≡ expr_task_run p n (task.evaluate b) x
  not-tested a x =
      let b : ExprTree = expr t (tree.unary unary_op.LogicalNot a) in
      let first : Answer Valued = expr_run (context p n x) a (state_of x) in
      let negated : Valued → Answer Valued = λ y. on_defined (truth (type_of a) y.value) (λ d. given_word y.state (one_if (not d))) in
      let test : Valued → Answer Reached = λ r. then_on (branched t r.value (given_word r.state 1) (given_word r.state 0)) (gives_value x) in
      sym (tested p n (context p n x) b x)
      ∙ then_associates first negated test
      ∙ then_on_given first (λ y. then_on (negated y) test) (λ y. then_on (negated y) (gives_value x)) (λ y o e. bit-tested (truth (type_of a) y.value) y.state x)
      ∙ sym (then_associates first negated (gives_value x))

  pub not_tested : (a b : ExprTree) → b ≡ expr t (tree.unary unary_op.LogicalNot a) → IsStep p n r old new (expr_task_run p n (task.evaluate b)) → IsStep p n r old new (tested_run p n b)
  not_tested a b is step =
      same_step p n r old new (tested_run p n b) (expr_task_run p n (task.evaluate b))
      (λ m i held.
      let x : Configuration = config_of old m i in
      ap (λ z. tested_run p n z x) is ∙ not-tested a x ∙ ap (λ z. expr_task_run p n (task.evaluate z) x) (sym is))
      step

  and-known : (a b : ExprTree) (d : Bool) (x : Configuration) → HasTruth (context p n x) a (state_of x) d →
      expr_task_run p n (task.evaluate (expr t (tree.logical_and a b))) x ≡ (if d then tested_run p n b x else give_run (Some (Num 0)) x)
  and-known a b d x (v, is, h) =
      expression-expands p n t (tree.logical_and a b) x
      ∙ ap (λ z. then_on (then_on z (gives_value x)) (task_run p n (of_expr (task.and_also (type_of a) b)))) is
      ∙ decided (type_of a) v d
      (then_on (expr_run (context p n x) b (state_of x)) (λ r. then_on (branched (type_of b) r.value (given_word r.state 1) (given_word r.state 0)) (gives_value x)))
      (then_on (given_word (state_of x) 0) (gives_value x)) h
      ∙ ap (λ z. if d then z else give_run (Some (Num 0)) x) (tested p n (context p n x) b x)

  or-known : (a b : ExprTree) (d : Bool) (x : Configuration) → HasTruth (context p n x) a (state_of x) d →
      expr_task_run p n (task.evaluate (expr t (tree.logical_or a b))) x ≡ (if d then give_run (Some (Num 1)) x else tested_run p n b x)
  or-known a b d x (v, is, h) =
      expression-expands p n t (tree.logical_or a b) x
      ∙ ap (λ z. then_on (then_on z (gives_value x)) (task_run p n (of_expr (task.or_else (type_of a) b)))) is
      ∙ decided (type_of a) v d (then_on (given_word (state_of x) 1) (gives_value x))
      (then_on (expr_run (context p n x) b (state_of x)) (λ r. then_on (branched (type_of b) r.value (given_word r.state 1) (given_word r.state 0)) (gives_value x))) h
      ∙ ap (λ z. if d then give_run (Some (Num 1)) x else z) (tested p n (context p n x) b x)

  pub and_true : (a b : ExprTree) (d : Bool) → d ≡ true → Knows p n old (λ c s. IsTruth c a s (Some d)) → IsStep p n r old new (tested_run p n b) →
      IsStep p n r old new (expr_task_run p n (task.evaluate (expr t (tree.logical_and a b))))
  and_true a b d is known step =
      same_step p n r old new (expr_task_run p n (task.evaluate (expr t (tree.logical_and a b)))) (tested_run p n b)
      (λ m i held. let x : Configuration = config_of old m i in and-known a b d x (known m i held) ∙ ap (λ q. if q then tested_run p n b x else give_run (Some (Num 0)) x) is) step

  pub and_false : (a b : ExprTree) (d : Bool) → d ≡ false → Knows p n old (λ c s. IsTruth c a s (Some d)) → IsStep p n r old new (give_run (Some (Num 0))) →
      IsStep p n r old new (expr_task_run p n (task.evaluate (expr t (tree.logical_and a b))))
  and_false a b d is known step =
      same_step p n r old new (expr_task_run p n (task.evaluate (expr t (tree.logical_and a b)))) (give_run (Some (Num 0)))
      (λ m i held. let x : Configuration = config_of old m i in and-known a b d x (known m i held) ∙ ap (λ q. if q then tested_run p n b x else give_run (Some (Num 0)) x) is) step

  pub or_true : (a b : ExprTree) (d : Bool) → d ≡ true → Knows p n old (λ c s. IsTruth c a s (Some d)) → IsStep p n r old new (give_run (Some (Num 1))) →
      IsStep p n r old new (expr_task_run p n (task.evaluate (expr t (tree.logical_or a b))))
  or_true a b d is known step =
      same_step p n r old new (expr_task_run p n (task.evaluate (expr t (tree.logical_or a b)))) (give_run (Some (Num 1)))
      (λ m i held. let x : Configuration = config_of old m i in or-known a b d x (known m i held) ∙ ap (λ q. if q then give_run (Some (Num 1)) x else tested_run p n b x) is) step

  pub or_false : (a b : ExprTree) (d : Bool) → d ≡ false → Knows p n old (λ c s. IsTruth c a s (Some d)) → IsStep p n r old new (tested_run p n b) →
      IsStep p n r old new (expr_task_run p n (task.evaluate (expr t (tree.logical_or a b))))
  or_false a b d is known step =
      same_step p n r old new (expr_task_run p n (task.evaluate (expr t (tree.logical_or a b)))) (tested_run p n b)
      (λ m i held. let x : Configuration = config_of old m i in or-known a b d x (known m i held) ∙ ap (λ q. if q then give_run (Some (Num 1)) x else tested_run p n b x) is) step

  -- ---- reads and assignments

  slot-of : (q : PlaceTree) (o : Option ℕ) → o ≡ place_slot (slots_of old.slots.items) q → value_slot (slots_of old.slots.items) q ≡ o
  slot-of q o at = sym (slot-is (slots_of old.slots.items) q) ∙ sym at

  pub read_put : (e : ExprTree) (q : PlaceTree) → e ≡ expr t (tree.read q) → None ≡ place_slot (slots_of old.slots.items) q →
      IsStep p n r old new (λ x. then_on (expr_task_run p n (task.locate q) x) (task_run p n (of_expr (task.load_from t)))) → IsStep p n r old new (expr_task_run p n (task.evaluate e))
  read_put e q is at step =
      same_step p n r old new (expr_task_run p n (task.evaluate e)) (λ x. then_on (expr_task_run p n (task.locate q) x) (task_run p n (of_expr (task.load_from t))))
      (λ m i held.
      let x : Configuration = config_of old m i in
      ap (λ z. expr_task_run p n (task.evaluate z) x) is ∙ expression-expands p n t (tree.read q) x ∙ ap (λ o. tasks_run p n (of_exprs (read_tasks t q o)) (normally x)) (slot-of q None at))
      step

  pub assign_slot : (q : PlaceTree) (a : ExprTree) (k : ℕ) → Some k ≡ place_slot (slots_of old.slots.items) q →
      IsStep p n r old new (λ x. then_on (expr_task_run p n (task.evaluate a) x) (task_run p n (of_expr (task.store_slot k t)))) → IsStep p n r old new (expr_task_run p n (task.evaluate (expr t (tree.assign q a))))
  assign_slot q a k at step =
      same_step p n r old new (expr_task_run p n (task.evaluate (expr t (tree.assign q a)))) (λ x. then_on (expr_task_run p n (task.evaluate a) x) (task_run p n (of_expr (task.store_slot k t))))
      (λ m i held.
      let x : Configuration = config_of old m i in
      expression-expands p n t (tree.assign q a) x ∙ ap (λ o. tasks_run p n (of_exprs (assign_tasks t q a o)) (normally x)) (slot-of q (Some k) at))
      step

  pub assign_put : (q : PlaceTree) (a : ExprTree) → None ≡ place_slot (slots_of old.slots.items) q →
      IsStep p n r old new (tasks_do p n (of_expr (task.store_at t) ∷ of_expr (task.evaluate a) ∷ of_expr (task.locate q) ∷ [])) → IsStep p n r old new (expr_task_run p n (task.evaluate (expr t (tree.assign q a))))
  assign_put q a at step =
      same_step p n r old new (expr_task_run p n (task.evaluate (expr t (tree.assign q a)))) (tasks_do p n (of_expr (task.store_at t) ∷ of_expr (task.evaluate a) ∷ of_expr (task.locate q) ∷ []))
      (λ m i held.
      let x : Configuration = config_of old m i in
      expression-expands p n t (tree.assign q a) x ∙ ap (λ o. tasks_run p n (of_exprs (assign_tasks t q a o)) (normally x)) (slot-of q None at))
      step

  -- ---- `++` and `--`

  pub step_put : (i : IncDec) (q : PlaceTree) → None ≡ place_slot (slots_of old.slots.items) q →
      IsStep p n r old new (tasks_do p n (of_expr (task.step_at i t) ∷ of_expr (task.load_at t) ∷ of_expr (task.locate q) ∷ [])) → IsStep p n r old new (expr_task_run p n (task.evaluate (expr t (tree.inc_dec i q))))
  step_put i q at step =
      same_step p n r old new (expr_task_run p n (task.evaluate (expr t (tree.inc_dec i q)))) (tasks_do p n (of_expr (task.step_at i t) ∷ of_expr (task.load_at t) ∷ of_expr (task.locate q) ∷ []))
      (λ m input held.
      let x : Configuration = config_of old m input in
      expression-expands p n t (tree.inc_dec i q) x
      ∙ ap (λ o. tasks_run p n (of_exprs (step_tasks i t q o)) (normally x)) (slot-of q None at))
      step

  slot-stepped : (i : IncDec) (q : PlaceTree) (k : ℕ) (m : Memory) (input : List ℕ) → Some k ≡ place_slot (slots_of old.slots.items) q →
      let x : Configuration = config_of old m input in
      expr_task_run p n (task.evaluate (expr t (tree.inc_dec i q))) x ≡ then_on (give_run (slot_read (slice_get (slots_of old.slots.items) k)) x) (task_run p n (of_expr (task.step_slot k i t)))
  slot-stepped i q k m input at =
      let x : Configuration = config_of old m input in
      expression-expands p n t (tree.inc_dec i q) x
      ∙ ap (λ o. tasks_run p n (of_exprs (step_tasks i t q o)) (normally x)) (slot-of q (Some k) at)
      ∙ ap (λ a. then_on a (task_run p n (of_expr (task.step_slot k i t)))) (slot-gives t k x)

  pub slot_stepped : (i : IncDec) (q : PlaceTree) (k : ℕ) (many : Vec Value Global) (v : Value) → Some k ≡ place_slot (slots_of old.slots.items) q →
      Some v ≡ slot_read (slice_get (slots_of old.slots.items) k) → many.items ≡ old.operands.items ++ v ∷ [] →
      IsStep p n r (with_ops old many) new (expr_task_run p n (task.step_slot k i t)) → IsStep p n r old new (expr_task_run p n (task.evaluate (expr t (tree.inc_dec i q))))
  slot_stepped i q k many v at read pushed step =
      moved p n r old (with_ops old many) new (expr_task_run p n (task.evaluate (expr t (tree.inc_dec i q)))) (expr_task_run p n (task.step_slot k i t)) refl
      (λ m held. (
        m,
        record { store = held.store; counts = held.counts },
        λ input.
            let x : Configuration = config_of old m input in
            slot-stepped i q k m input at
            ∙ ap (λ o. then_on (give_run o x) (task_run p n (of_expr (task.step_slot k i t)))) (sym read)
            ∙ ap (λ vs. expr_task_run p n (task.step_slot k i t) (with_operands x vs)) (sym (newest-one old.operands.items many.items v pushed)),
      ))
      step

  -- the address and the value before it wait as operands
  pub stepped_at : (i : IncDec) (q : PlaceTree) (few many : Vec Value Global) (at v : Value) → Knows p n old (λ c s. IsAddress c q s (Some at)) →
      ((calls : List Opened) (m : Memory) → Holds old.store calls m → Some v ≡ loaded_value t at m) → few.items ≡ old.operands.items ++ at ∷ [] → many.items ≡ few.items ++ v ∷ [] →
      IsStep p n r (with_ops old many) new (expr_task_run p n (task.step_at i t)) →
      IsStep p n r old new (tasks_do p n (of_expr (task.step_at i t) ∷ of_expr (task.load_at t) ∷ of_expr (task.locate q) ∷ []))
  stepped_at i q few many at v known read pushed pushed_more step =
      moved p n r old (with_ops old many) new (tasks_do p n (of_expr (task.step_at i t) ∷ of_expr (task.load_at t) ∷ of_expr (task.locate q) ∷ [])) (expr_task_run p n (task.step_at i t)) refl
      (λ m held. (
        m,
        record { store = held.store; counts = held.counts },
        λ input.
            let x : Configuration = config_of old m input in
            let y : Configuration = with_operands x (at ∷ x.operands) in
            let last : Answer Reached → Answer Reached = λ a. then_on a (task_run p n (of_expr (task.step_at i t))) in
            ap (λ z. last (then_on (then_on (then_on z (λ b. address_of b.spot b.state)) (gives_value x)) (task_run p n (of_expr (task.load_at t))))) (known m input held)
            ∙ ap last (read-gives t (load (access_width t) at m) y)
            ∙ ap (λ o. last (give_run o y)) (sym (read (calls_in old) m held.store))
            ∙ ap (λ vs. expr_task_run p n (task.step_at i t) (with_operands x vs)) (sym (newest-one few.items many.items v pushed_more ∙ ap (λ vs. v ∷ vs) (newest-one old.operands.items few.items at pushed))),
      ))
      step

  given-used : (x : Configuration) (v : Value) → then_on (gives_value x (record { value = v; state = state_of x })) (task_run p n (of_expr task.use_it)) ≡ give_run (used_value v) x
  given-used x (Num w) = refl
  given-used x (At b o) = refl
  given-used x Bad = refl

  -- ---- arguments

  passed-known : (e : ExprTree) (es : ExprTrees) (v : Value) (m : Memory) (i : List ℕ) → IsHeld p old m → Knows p n old (λ c s. IsValue c e s (Some v)) →
      let x : Configuration = config_of old m i in passed_then p n e es x ≡ then_on (give_run (used_value v) x) (task_run p n (of_expr (task.pass_each es)))
  passed-known e es v m i held known =
      let x : Configuration = config_of old m i in
      let next : Answer Reached → Answer Reached = λ a. then_on a (task_run p n (of_expr (task.pass_each es))) in
      ap (λ z. next (then_on (then_on z (gives_value x)) (task_run p n (of_expr task.use_it)))) (known m i held) ∙ ap next (given-used x v)

  pub not_passed : (e : ExprTree) (es : ExprTrees) (v : Value) → Knows p n old (λ c s. IsValue c e s (Some v)) → None ≡ used_value v → IsStep p n (Err stop.Undefined) old new (passed_then p n e es)
  not_passed e es v known none =
      undefined_step p n old new (passed_then p n e es)
      (λ m i held. passed-known e es v m i held known ∙ ap (λ o. then_on (give_run o (config_of old m i)) (task_run p n (of_expr (task.pass_each es)))) (sym none))

  pub not_read : (i : IncDec) (q : PlaceTree) (k : ℕ) → Some k ≡ place_slot (slots_of old.slots.items) q → None ≡ slot_read (slice_get (slots_of old.slots.items) k) →
      IsStep p n (Err stop.Undefined) old new (expr_task_run p n (task.evaluate (expr t (tree.inc_dec i q))))
  not_read i q k at none =
      undefined_step p n old new (expr_task_run p n (task.evaluate (expr t (tree.inc_dec i q))))
      (λ m input held. slot-stepped i q k m input at ∙ ap (λ o. then_on (give_run o (config_of old m input)) (task_run p n (of_expr (task.step_slot k i t)))) (sym none))

  pub not_loaded : (i : IncDec) (q : PlaceTree) (at : Value) → Knows p n old (λ c s. IsAddress c q s (Some at)) → ((calls : List Opened) (m : Memory) → Holds old.store calls m → None ≡ loaded_value t at m) →
      IsStep p n (Err stop.Undefined) old new (tasks_do p n (of_expr (task.step_at i t) ∷ of_expr (task.load_at t) ∷ of_expr (task.locate q) ∷ []))
  not_loaded i q at known none =
      undefined_step p n old new (tasks_do p n (of_expr (task.step_at i t) ∷ of_expr (task.load_at t) ∷ of_expr (task.locate q) ∷ []))
      (λ m input held.
      let x : Configuration = config_of old m input in
      let y : Configuration = with_operands x (at ∷ x.operands) in
      let last : Answer Reached → Answer Reached = λ a. then_on a (task_run p n (of_expr (task.step_at i t))) in
      ap (λ z. last (then_on (then_on (then_on z (λ b. address_of b.spot b.state)) (gives_value x)) (task_run p n (of_expr (task.load_at t))))) (known m input held)
      ∙ ap last (read-gives t (load (access_width t) at m) y)
      ∙ ap (λ o. last (give_run o y)) (sym (none (calls_in old) m held.store)))

  pub passed_value : (e : ExprTree) (es : ExprTrees) (many : Vec Value Global) (v w : Value) → Knows p n old (λ c s. IsValue c e s (Some v)) → Some w ≡ used_value v → many.items ≡ old.operands.items ++ w ∷ [] →
      IsStep p n r (with_ops old many) new (expr_task_run p n (task.pass_each es)) → IsStep p n r old new (passed_then p n e es)
  passed_value e es many v w known is pushed step =
      moved p n r old (with_ops old many) new (passed_then p n e es) (expr_task_run p n (task.pass_each es)) refl
      (λ m held. (
        m,
        record { store = held.store; counts = held.counts },
        λ i.
            let x : Configuration = config_of old m i in
            passed-known e es v m i held known
            ∙ ap (λ o. then_on (give_run o x) (task_run p n (of_expr (task.pass_each es)))) (sym is)
            ∙ ap (λ vs. expr_task_run p n (task.pass_each es) (with_operands x vs)) (sym (newest-one old.operands.items many.items w pushed)),
      ))
      step

  -- ---- places

  pub at_put : (q : PlaceTree) (e : ExprTree) → q ≡ place t (tree.at e) → IsStep p n r old new (λ x. then_on (expr_task_run p n (task.evaluate e) x) (task_run p n (of_expr task.use_it))) →
      IsStep p n r old new (expr_task_run p n (task.locate q))
  at_put q e is step =
      same_step p n r old new (expr_task_run p n (task.locate q)) (λ x. then_on (expr_task_run p n (task.evaluate e) x) (task_run p n (of_expr task.use_it)))
      (λ m i held. let x : Configuration = config_of old m i in ap (λ z. expr_task_run p n (task.locate z) x) is ∙ place-expands p n t (tree.at e) x) step

  pub member_put : (q s : PlaceTree) (offset : ℕ) → q ≡ place t (tree.member s offset) → IsStep p n r old new (λ x. then_on (expr_task_run p n (task.locate s) x) (task_run p n (of_expr (task.member_at offset)))) →
      IsStep p n r old new (expr_task_run p n (task.locate q))
  member_put q s offset is step =
      same_step p n r old new (expr_task_run p n (task.locate q)) (λ x. then_on (expr_task_run p n (task.locate s) x) (task_run p n (of_expr (task.member_at offset))))
      (λ m i held. let x : Configuration = config_of old m i in ap (λ z. expr_task_run p n (task.locate z) x) is ∙ place-expands p n t (tree.member s offset) x) step

  -- its address is known, and the value of an assignment comes next
  pub located_then : (q : PlaceTree) (a : ExprTree) (many : Vec Value Global) (at : Value) → Knows p n old (λ c s. IsAddress c q s (Some at)) → many.items ≡ old.operands.items ++ at ∷ [] →
      IsStep p n r (with_ops old many) new (expr_task_run p n (task.evaluate a)) → IsStep p n r old new (λ x. then_on (expr_task_run p n (task.locate q) x) (task_run p n (of_expr (task.evaluate a))))
  located_then q a many at known pushed step =
      moved p n r old (with_ops old many) new (λ x. then_on (expr_task_run p n (task.locate q) x) (task_run p n (of_expr (task.evaluate a)))) (expr_task_run p n (task.evaluate a)) refl
      (λ m held. (
        m,
        record { store = held.store; counts = held.counts },
        λ i.
            let x : Configuration = config_of old m i in
            ap (λ z. then_on (then_on (then_on z (λ b. address_of b.spot b.state)) (gives_value x)) (task_run p n (of_expr (task.evaluate a)))) (known m i held)
            ∙ ap (λ vs. expr_task_run p n (task.evaluate a) (with_operands x vs)) (sym (newest-one old.operands.items many.items at pushed)),
      ))
      step

  -- a number is assigned to a variable, and another one given
  pub written_given : (e : ExprTree) (slots : Vec CodeSlot Global) (w : Assignment) → Knows p n old (λ c s. IsWritten c e s (Some w)) →
      slots_of slots.items ≡ slice_set (slots_of old.slots.items) w.slot (holds (Num w.word)) → IsStep p n r (with_slots old slots) new (give_run (Some (Num w.given))) → IsStep p n r old new (expr_task_run p n (task.evaluate e))
  written_given e slots w known set step =
      moved p n r old (with_slots old slots) new (expr_task_run p n (task.evaluate e)) (give_run (Some (Num w.given))) refl
      (λ m held. (
        m,
        record { store = held.store; counts = held.counts },
        λ i.
            let x : Configuration = config_of old m i in
            ap (λ z. then_on z (gives_value x)) (known m i held) ∙ ap (λ q. give_run (Some (Num w.given)) (with_frame_slots x q)) (sym set),
      ))
      step
