-- Steps of tasks of operators, once their operands were taken.
use Rattle.std.proofs.Common.{Vec, Global, ◌≡◌, ℕ, Bool, true, false, List, [], ◌∷◌, ◌++◌, reverse, refl, sym, ap, ◌∙◌}
use Rattle.std.specs.Prelude.{Option, None, Some, option_map, if◌then◌else◌, Result, Ok, Err}
use Rattle.val_core.specs.declared.values.Value.{Value}
use Rattle.val_core.specs.declared.values.Value.TheVariants.{Num}
use Rattle.val_core.specs.Memory.{Memory, load}
use Rattle.val_core.specs.Answers.{Answer, then_on, on_defined}
use Rattle.c_type.specs.Trees.{TypeTree}
use Rattle.c_typed.specs.declared.operator.UnaryOp.{UnaryOp}
use Rattle.c_typed.specs.declared.operator.BinaryOp.{BinaryOp}
use Rattle.c_typed.specs.declared.operator.CompoundOp.{CompoundOp}
use Rattle.c_typed.specs.declared.operator.IncDec.{IncDec}
use Rattle.c_typed.specs.Typed.{ExprTree, ProgramTree}
use Rattle.c_typed.specs.WellTyped.{type_of}
use Rattle.c_typed.specs.Objects.{access_width}
use Rattle.c_mean.specs.State.{State, gives, truth, member_address}
use Rattle.c_mean.specs.Expressions.{given_word, branched, unary_done, binary_done, compound_done, stepped, expr_run}
use Rattle.c_interp_store.specs.Holding.{Opened, Holds}
use Rattle.c_interp_store.specs.Operators.{used_value}
use Rattle.c_interp_def.specs.Configurations.{Configuration, Reached, state_of, gives_value, with_operands}
use Rattle.c_interp_def.specs.ExprTasks as task
use Rattle.c_interp_def.specs.ExprTasks.{context, expr_task_run}
use Rattle.c_interp_def.specs.StmtTasks.{of_expr}
use Rattle.c_interp_def.specs.declared.task.Flow.TheVariants.{Normal}
use Rattle.c_interp.specs.declared.stop.Stop.{Stop}
use Rattle.c_interp.specs.declared.stop.Stop.TheVariants as stop
use Rattle.c_interp.specs.declared.machine.Machine.{Machine}
use Rattle.c_interp.specs.Machines.{config_of, IsHeld}
use Rattle.c_interp.specs.Steps.{IsStep, nothing_run, tasks_do, tested_run, give_run, choose_run, write_run, set_run, bit_of, loaded_value, converted_value, old_of}
use Rattle.c_interp.proofs.Steps.{taken, with_ops, calls_in, newest-one, newest-two, newest-three, undefined_step, nothing_step, same_step}
use Rattle.c_interp.proofs.Operators.{given, used-put, bit-gives, read-gives, tested, store-gives, compound-gives, step-gives, set-gives, compound-sets, step-sets}

-- what a call that reads the memory says of the store of a machine
abbrev pub OnMemory : Machine → (Memory → Type 0) → Type 0
OnMemory old P = (calls : List Opened) (m : Memory) → Holds old.store calls m → P m

abbrev pub OnState : Machine → (State → Type 0) → Type 0
OnState old P = (calls : List Opened) (s : State) → Holds old.store calls s.memory → P s

module _ (p : ProgramTree) (n : ℕ) (r : Result Unit Stop) (old new : Machine) (few : Vec Value Global) where
  -- where the machine stands once the operands were taken
  abbrev pub here : Memory → List ℕ → Configuration
  here m i = config_of (with_ops old few) m i

  pub one : (v : Value) (run run' : Configuration → Answer Reached) → old.operands.items ≡ few.items ++ v ∷ [] →
      ((m : Memory) (i : List ℕ) → IsHeld p old m → run (with_operands (config_of old m i) (v ∷ reverse few.items)) ≡ run' (here m i)) →
      IsStep p n r (with_ops old few) new run' → IsStep p n r old new run
  one v run run' e does step = taken p n r old new few (v ∷ []) run run' (newest-one few.items old.operands.items v e) does step

  two : (a b : Value) (run run' : Configuration → Answer Reached) → old.operands.items ≡ few.items ++ (a ∷ b ∷ []) →
      ((m : Memory) (i : List ℕ) → IsHeld p old m → run (with_operands (config_of old m i) (b ∷ a ∷ reverse few.items)) ≡ run' (here m i)) →
      IsStep p n r (with_ops old few) new run' → IsStep p n r old new run
  two a b run run' e does step = taken p n r old new few (b ∷ a ∷ []) run run' (newest-two few.items old.operands.items a b e) does step

  three : (a b c : Value) (run run' : Configuration → Answer Reached) → old.operands.items ≡ few.items ++ (a ∷ b ∷ c ∷ []) →
      ((m : Memory) (i : List ℕ) → IsHeld p old m → run (with_operands (config_of old m i) (c ∷ b ∷ a ∷ reverse few.items)) ≡ run' (here m i)) →
      IsStep p n r (with_ops old few) new run' → IsStep p n r old new run
  three a b c run run' e does step = taken p n r old new few (c ∷ b ∷ a ∷ []) run run' (newest-three few.items old.operands.items a b c e) does step

  pub member_step : (v : Value) (offset : ℕ) (to : Option Value) → old.operands.items ≡ few.items ++ v ∷ [] → OnMemory old (λ m. to ≡ member_address v offset m) →
      IsStep p n r (with_ops old few) new (give_run to) → IsStep p n r old new (expr_task_run p n (task.member_at offset))
  member_step v offset to e is step =
      one v (expr_task_run p n (task.member_at offset)) (give_run to) e (λ m i held. ap (λ u. give_run u (here m i)) (sym (is (calls_in old) m held.store))) step

  pub use_step : (v : Value) (u : Option Value) → old.operands.items ≡ few.items ++ v ∷ [] → u ≡ used_value v →
      IsStep p n r (with_ops old few) new (give_run u) → IsStep p n r old new (expr_task_run p n task.use_it)
  use_step v u e is step = one v (expr_task_run p n task.use_it) (give_run u) e (λ m i held. used-put v (here m i) ∙ ap (λ w. give_run w (here m i)) (sym is)) step

  pub test_step : (v : Value) (t : TypeTree) (d : Option Bool) (u : Option Value) → old.operands.items ≡ few.items ++ v ∷ [] → d ≡ truth t v → u ≡ option_map bit_of d →
      IsStep p n r (with_ops old few) new (give_run u) → IsStep p n r old new (expr_task_run p n (task.test t))
  test_step v t d u e known is step =
      one v (expr_task_run p n (task.test t)) (give_run u) e
      (λ m i held. bit-gives (truth t v) (here m i) ∙ ap (λ b. give_run (option_map bit_of b) (here m i)) (sym known) ∙ ap (λ w. give_run w (here m i)) (sym is)) step

  pub unary_step : (v : Value) (o : UnaryOp) (t u : TypeTree) (w : Option Value) → old.operands.items ≡ few.items ++ v ∷ [] → ((s : State) → unary_done o t u v s ≡ on_defined w (gives s)) →
      IsStep p n r (with_ops old few) new (give_run w) → IsStep p n r old new (expr_task_run p n (task.unary o t u))
  unary_step v o t u w e is step =
      one v (expr_task_run p n (task.unary o t u)) (give_run w) e (λ m i held. ap (λ a. then_on a (gives_value (here m i))) (is (state_of (here m i))) ∙ given w (here m i)) step

  pub binary_step : (a b : Value) (o : BinaryOp) (t u : TypeTree) (w : Option Value) → old.operands.items ≡ few.items ++ (a ∷ b ∷ []) →
      OnState old (λ s. binary_done o t u a b s ≡ on_defined w (gives s)) → IsStep p n r (with_ops old few) new (give_run w) → IsStep p n r old new (expr_task_run p n (task.binary o t u))
  binary_step a b o t u w e is step =
      two a b (expr_task_run p n (task.binary o t u)) (give_run w) e
      (λ m i held. ap (λ x. then_on x (gives_value (here m i))) (is (calls_in old) (state_of (here m i)) held.store) ∙ given w (here m i)) step

  pub load_step : (v : Value) (t : TypeTree) (w : Option Value) → old.operands.items ≡ few.items ++ v ∷ [] → OnMemory old (λ m. w ≡ loaded_value t v m) →
      IsStep p n r (with_ops old few) new (give_run w) → IsStep p n r old new (expr_task_run p n (task.load_from t))
  load_step v t w e is step =
      one v (expr_task_run p n (task.load_from t)) (give_run w) e
      (λ m i held. read-gives t (load (access_width t) v m) (here m i) ∙ ap (λ u. give_run u (here m i)) (sym (is (calls_in old) m held.store))) step

  -- the address stays
  pub keep_step : (v : Value) (t : TypeTree) (w : Option Value) (many : Vec Value Global) → old.operands.items ≡ few.items ++ v ∷ [] → many.items ≡ few.items ++ v ∷ [] →
      OnMemory old (λ m. w ≡ loaded_value t v m) → IsStep p n r (with_ops old many) new (give_run w) → IsStep p n r old new (expr_task_run p n (task.load_at t))
  keep_step v t w many e pushed is step =
      let run : Configuration → Answer Reached = expr_task_run p n (task.load_at t) in
      let at : Memory → List ℕ → List Value → Configuration = λ m i vs. with_operands (config_of old m i) vs in
      let back : reverse many.items ≡ v ∷ reverse few.items = newest-one few.items many.items v pushed in
      taken p n r old new many [] run (give_run w) (ap reverse (e ∙ sym pushed))
      (λ m i held.
      ap (λ vs. run (at m i vs)) back
      ∙ read-gives t (load (access_width t) v m) (at m i (v ∷ reverse few.items))
      ∙ ap (λ u. give_run u (at m i (v ∷ reverse few.items))) (sym (is (calls_in old) m held.store))
      ∙ ap (λ vs. give_run w (at m i vs)) (sym back))
      step

  pub store_step : (a v : Value) (t : TypeTree) (w : Option Value) → old.operands.items ≡ few.items ++ (a ∷ v ∷ []) → w ≡ used_value v →
      IsStep p n r (with_ops old few) new (write_run t a w None) → IsStep p n r old new (expr_task_run p n (task.store_at t))
  store_step a v t w e is step =
      two a v (expr_task_run p n (task.store_at t)) (write_run t a w None) e
      (λ m i held. store-gives t a v (here m i) ∙ ap (λ u. write_run t a u None (here m i)) (sym is)) step

  pub compound_step : (a b v : Value) (o : CompoundOp) (t u : TypeTree) (w : Option Value) → old.operands.items ≡ few.items ++ (a ∷ b ∷ v ∷ []) →
      OnState old (λ s. w ≡ converted_value t (compound_done o u b v s)) → IsStep p n r (with_ops old few) new (write_run t a w None) →
      IsStep p n r old new (expr_task_run p n (task.compound_at o t u))
  compound_step a b v o t u w e is step =
      three a b v (expr_task_run p n (task.compound_at o t u)) (write_run t a w None) e
      (λ m i held.
      compound-gives t a (compound_done o u b v (state_of (here m i))) (here m i)
      ∙ ap (λ x. write_run t a x None (here m i)) (sym (is (calls_in old) (state_of (here m i)) held.store)))
      step

  pub step_step : (a b : Value) (k : IncDec) (t : TypeTree) (w g : Option Value) → old.operands.items ≡ few.items ++ (a ∷ b ∷ []) →
      OnState old (λ s. w ≡ converted_value t (stepped k t b s)) → g ≡ old_of k b → IsStep p n r (with_ops old few) new (write_run t a w g) →
      IsStep p n r old new (expr_task_run p n (task.step_at k t))
  step_step a b k t w g e is gives_is step =
      two a b (expr_task_run p n (task.step_at k t)) (write_run t a w g) e
      (λ m i held.
      step-gives k t a b (stepped k t b (state_of (here m i))) (here m i)
      ∙ ap (λ x. write_run t a x (old_of k b) (here m i)) (sym (is (calls_in old) (state_of (here m i)) held.store))
      ∙ ap (λ x. write_run t a w x (here m i)) (sym gives_is))
      step

  -- ---- variables that hold a value

  pub set_step : (v : Value) (k : ℕ) (t : TypeTree) (w : Option Value) → old.operands.items ≡ few.items ++ v ∷ [] → w ≡ used_value v →
      IsStep p n r (with_ops old few) new (set_run k w None) → IsStep p n r old new (expr_task_run p n (task.store_slot k t))
  set_step v k t w e is step =
      one v (expr_task_run p n (task.store_slot k t)) (set_run k w None) e (λ m i held. set-gives t k v (here m i) ∙ ap (λ u. set_run k u None (here m i)) (sym is)) step

  pub compound_set_step : (b v : Value) (k : ℕ) (o : CompoundOp) (t u : TypeTree) (w : Option Value) → old.operands.items ≡ few.items ++ (b ∷ v ∷ []) →
      OnState old (λ s. w ≡ converted_value t (compound_done o u b v s)) → IsStep p n r (with_ops old few) new (set_run k w None) →
      IsStep p n r old new (expr_task_run p n (task.compound_slot k o t u))
  compound_set_step b v k o t u w e is step =
      two b v (expr_task_run p n (task.compound_slot k o t u)) (set_run k w None) e
      (λ m i held.
      compound-sets t k (compound_done o u b v (state_of (here m i))) (here m i)
      ∙ ap (λ x. set_run k x None (here m i)) (sym (is (calls_in old) (state_of (here m i)) held.store)))
      step

  pub step_set_step : (b : Value) (k : ℕ) (j : IncDec) (t : TypeTree) (w g : Option Value) → old.operands.items ≡ few.items ++ b ∷ [] →
      OnState old (λ s. w ≡ converted_value t (stepped j t b s)) → g ≡ old_of j b → IsStep p n r (with_ops old few) new (set_run k w g) →
      IsStep p n r old new (expr_task_run p n (task.step_slot k j t))
  step_set_step b k j t w g e is gives_is step =
      one b (expr_task_run p n (task.step_slot k j t)) (set_run k w g) e
      (λ m i held.
      step-sets j t k b (stepped j t b (state_of (here m i))) (here m i)
      ∙ ap (λ x. set_run k x (old_of j b) (here m i)) (sym (is (calls_in old) (state_of (here m i)) held.store))
      ∙ ap (λ x. set_run k w x (here m i)) (sym gives_is))
      step

  -- ---- `&&`, `||`, `?:`

  -- a condition, of which the truth decides
  pub decided : (t : TypeTree) (v : Value) (d : Option Bool) (a b : Answer Reached) → d ≡ truth t v → branched t v a b ≡ on_defined d (λ x. if x then a else b)
  decided t v d a b is = ap (λ o. on_defined o (λ x. if x then a else b)) (sym is)

  abbrev right : ExprTree → Memory → List ℕ → Answer Reached
  right b m i =
      let y : Configuration = here m i in
      then_on (expr_run (context p n y) b (state_of y)) (λ q. then_on (branched (type_of b) q.value (given_word q.state 1) (given_word q.state 0)) (gives_value y))

  pub and_true : (v : Value) (t : TypeTree) (b : ExprTree) → old.operands.items ≡ few.items ++ v ∷ [] → Some true ≡ truth t v →
      IsStep p n r (with_ops old few) new (tested_run p n b) → IsStep p n r old new (expr_task_run p n (task.and_also t b))
  and_true v t b e is step =
      one v (expr_task_run p n (task.and_also t b)) (tested_run p n b) e
      (λ m i held. decided t v (Some true) (right b m i) (then_on (given_word (state_of (here m i)) 0) (gives_value (here m i))) is ∙ tested p n (context p n (here m i)) b (here m i)) step

  pub and_false : (v : Value) (t : TypeTree) (b : ExprTree) → old.operands.items ≡ few.items ++ v ∷ [] → Some false ≡ truth t v →
      IsStep p n r (with_ops old few) new (give_run (Some (Num 0))) → IsStep p n r old new (expr_task_run p n (task.and_also t b))
  and_false v t b e is step =
      one v (expr_task_run p n (task.and_also t b)) (give_run (Some (Num 0))) e
      (λ m i held. decided t v (Some false) (right b m i) (then_on (given_word (state_of (here m i)) 0) (gives_value (here m i))) is) step

  pub or_true : (v : Value) (t : TypeTree) (b : ExprTree) → old.operands.items ≡ few.items ++ v ∷ [] → Some true ≡ truth t v →
      IsStep p n r (with_ops old few) new (give_run (Some (Num 1))) → IsStep p n r old new (expr_task_run p n (task.or_else t b))
  or_true v t b e is step =
      one v (expr_task_run p n (task.or_else t b)) (give_run (Some (Num 1))) e
      (λ m i held. decided t v (Some true) (then_on (given_word (state_of (here m i)) 1) (gives_value (here m i))) (right b m i) is) step

  pub or_false : (v : Value) (t : TypeTree) (b : ExprTree) → old.operands.items ≡ few.items ++ v ∷ [] → Some false ≡ truth t v →
      IsStep p n r (with_ops old few) new (tested_run p n b) → IsStep p n r old new (expr_task_run p n (task.or_else t b))
  or_false v t b e is step =
      one v (expr_task_run p n (task.or_else t b)) (tested_run p n b) e
      (λ m i held. decided t v (Some false) (then_on (given_word (state_of (here m i)) 1) (gives_value (here m i))) (right b m i) is ∙ tested p n (context p n (here m i)) b (here m i)) step

  pub choose_step : (v : Value) (t : TypeTree) (a b : ExprTree) (d : Option Bool) → old.operands.items ≡ few.items ++ v ∷ [] → d ≡ truth t v →
      IsStep p n r (with_ops old few) new (choose_run d (tasks_do p n (of_expr (task.evaluate a) ∷ [])) (tasks_do p n (of_expr (task.evaluate b) ∷ []))) →
      IsStep p n r old new (expr_task_run p n (task.choose t a b))
  choose_step v t a b d e is step =
      one v (expr_task_run p n (task.choose t a b)) (choose_run d (tasks_do p n (of_expr (task.evaluate a) ∷ [])) (tasks_do p n (of_expr (task.evaluate b) ∷ []))) e
      (λ m i held.
      decided t v d (tasks_do p n (of_expr (task.evaluate a) ∷ []) (here m i)) (tasks_do p n (of_expr (task.evaluate b) ∷ []) (here m i)) is)
      step

-- the truth is not known
pub unknown_step : (p : ProgramTree) (n : ℕ) (old new : Machine) (few : Vec Value Global) (v : Value) (t : TypeTree) (run : Configuration → Answer Reached) (a b : Configuration → Answer Reached) →
    old.operands.items ≡ few.items ++ v ∷ [] → None ≡ truth t v → ((x : Configuration) (vs : List Value) → run (with_operands x (v ∷ vs)) ≡ branched t v (a (with_operands x vs)) (b (with_operands x vs))) →
    IsStep p n (Err stop.Undefined) old new run
unknown_step p n old new few v t run a b e is does =
    undefined_step p n old new run
    (λ m i held.
    ap (λ vs. run (with_operands (config_of old m i) vs)) (newest-one few.items old.operands.items v e)
    ∙ does (config_of old m i) (reverse few.items)
    ∙ ap (λ o. on_defined o (λ x. if x then a (config_of (with_ops old few) m i) else b (config_of (with_ops old few) m i))) (sym is))

pub discard_step : (p : ProgramTree) (n : ℕ) (u : Unit) (old : Machine) (few : Vec Value Global) (v : Value) → old.flow ≡ Normal → old.operands.items ≡ few.items ++ v ∷ [] →
    IsStep p n (Ok u) old (with_ops old few) (expr_task_run p n task.discard)
discard_step p n u old few v flow e =
    one p n (Ok u) old (with_ops old few) few v (expr_task_run p n task.discard) nothing_run e (λ m i held. refl) (nothing_step p n u (with_ops old few) flow)

pub give_step : (p : ProgramTree) (n : ℕ) (r : Result Unit Stop) (old new : Machine) (v : Value) → IsStep p n r old new (give_run (Some v)) → IsStep p n r old new (expr_task_run p n (task.give v))
give_step p n r old new v step = same_step p n r old new (expr_task_run p n (task.give v)) (give_run (Some v)) (λ m i held. refl) step
