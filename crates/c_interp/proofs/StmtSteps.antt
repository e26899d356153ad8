-- Steps of tasks of statements, of variables and of jumps.
use Rattle.std.proofs.Common.{Vec, Global, ◌≡◌, ℕ, ◌-◌, ◌%◌, Bool, true, false, List, [], ◌∷◌, ◌++◌, length, take, reverse, refl, sym, ap, ◌∙◌}
use Rattle.std.specs.Prelude.{Option, None, Some, option_map, slice_get, Result, Ok, Err}
use Rattle.std.proofs.lemmas.Bool.{false≢true}
use Rattle.std.proofs.lemmas.List.{map-append, take-map, length-map}
use Rattle.val_core.specs.declared.values.Value.{Value}
use Rattle.val_core.specs.declared.values.Value.TheVariants.{Num, At, Bad}
use Rattle.val_core.specs.Memory.{Memory, cleared_at}
use Rattle.val_core.specs.Answers.{Answer, Exited, Undefined, on_number, on_defined}
use Rattle.val_core.specs.Objects.{address_in}
use Rattle.c_type.specs.Trees.{TypeTree}
use Rattle.c_typed.specs.Typed as tree
use Rattle.c_typed.specs.Typed.{ExprTree, StmtTree, GroupTrees, VariableTree, ProgramTree}
use Rattle.c_typed.specs.WellTyped.{type_of}
use Rattle.c_mean.specs.State as state
use Rattle.c_mean.specs.State.{used, holds, truth, bytes_into}
use Rattle.c_mean.specs.Statements.{normal, returned, chosen_groups, characters_stored, in_scope, newest_written}
use Rattle.c_mean.specs.Run.{global_sizes}
use Rattle.c_interp_store.specs.declared.store.Store.{Store}
use Rattle.c_interp_store.specs.Holding.{Opened, Holds, IsChanged}
use Rattle.c_interp_store.specs.Operators.{used_value}
use Rattle.c_interp_def.specs.Configurations.{Configuration, Reached, reaches, state_of, goes_on_at, with_operands, variables_of, object_sizes}
use Rattle.c_interp_def.specs.ExprTasks as task
use Rattle.c_interp_def.specs.ExprTasks.{context, expr_task_run}
use Rattle.c_interp_def.specs.StmtTasks as stmt
use Rattle.c_interp_def.specs.StmtTasks.{of_stmt, groups_run, stmt_task_run, handler_run}
use Rattle.c_interp_def.specs.declared.task.Slot.{Slot}
use Rattle.c_interp_def.specs.declared.task.Slot.TheVariants.{Holds as HeldSlot}
use Rattle.c_interp_def.specs.declared.task.Flow.{Flow}
use Rattle.c_interp_def.specs.declared.task.Flow.TheVariants.{Normal, Broke, Continued, Returned as JumpedBack}
use Rattle.c_interp_answer.specs.TaskViews.{slot_of, slots_of, flow_of}
use Rattle.c_interp.specs.declared.stop.Stop.{Stop}
use Rattle.c_interp.specs.declared.stop.Stop.TheVariants as stop
use Rattle.c_interp.specs.declared.machine.Machine.{Machine}
use Rattle.c_interp.specs.Machines.{config_of, IsHeld}
use Rattle.c_interp.specs.Steps.{IsStep, nothing_run, tasks_do, give_run, choose_run, store_run, with_frame_slots, number, slot_read, slot_address, slot_begun, asked_do, IsSomeHeld, IsStored}
use Rattle.c_interp.proofs.Steps.{with_ops, with_store, calls_in, newest-one, done_at_once, undefined_step, nothing_step, same_step, changed_step, end-exit}
use Rattle.c_interp.proofs.ExprSteps.{one, here, decided}
use Rattle.c_interp.proofs.Operators.{slot-gives, address-gives}
use Rattle.c_interp.proofs.Statements.{entered-is, store-begins, zeros-are}

-- ---- numbers

pub on-number : {A : Type 0} (v : Value) (next : ℕ → Answer A) → on_number v next ≡ on_defined (number v) next
on-number (Num w) next = refl
on-number (At b o) next = refl
on-number Bad next = refl

pub used-is : {A : Type 0} (v : Value) (next : Value → Answer A) → used v next ≡ on_defined (used_value v) next
used-is (Num w) next = refl
used-is (At b o) next = refl
used-is Bad next = refl

-- an operand that is no number, or no value
pub no_operand : (p : ProgramTree) (n : ℕ) {X : Type 0} (old new : Machine) (few : Vec Value Global) (v : Value) (o : Option X) (run : Configuration → Answer Reached) (next : Configuration → X → Answer Reached) →
    old.operands.items ≡ few.items ++ v ∷ [] → o ≡ None → ((x : Configuration) (vs : List Value) → run (with_operands x (v ∷ vs)) ≡ on_defined o (next (with_operands x vs))) →
    IsStep p n (Err stop.Undefined) old new run
no_operand p n old new few v o run next e none does =
    undefined_step p n old new run
    (λ m i held.
    ap (λ vs. run (with_operands (config_of old m i) vs)) (newest-one few.items old.operands.items v e)
    ∙ does (config_of old m i) (reverse few.items)
    ∙ ap (λ q. on_defined q (next (config_of (with_ops old few) m i))) none)

-- ---- variables that hold a value, and addresses

pub slot_step : (p : ProgramTree) (n : ℕ) (r : Result Unit Stop) (old new : Machine) (k : ℕ) (t : TypeTree) (w : Option Value) → w ≡ slot_read (slice_get (slots_of old.slots.items) k) →
    IsStep p n r old new (give_run w) → IsStep p n r old new (expr_task_run p n (task.load_slot k t))
slot_step p n r old new k t w is step =
    same_step p n r old new (expr_task_run p n (task.load_slot k t)) (give_run w)
    (λ m i held. slot-gives t k (config_of old m i) ∙ ap (λ u. give_run u (config_of old m i)) (sym is)) step

pub local_step : (p : ProgramTree) (n : ℕ) (r : Result Unit Stop) (old new : Machine) (k : ℕ) (w : Option Value) →
    w ≡ slot_address (address_in old.frame.objects.first (object_sizes p (variables_of p old.frame.function))) (slice_get (slots_of old.slots.items) k) →
    IsStep p n r old new (give_run w) → IsStep p n r old new (expr_task_run p n (task.local_at k))
local_step p n r old new k w is step =
    same_step p n r old new (expr_task_run p n (task.local_at k)) (give_run w)
    (λ m i held. let x : Configuration = config_of old m i in address-gives (context p n x) k (slice_get (slots_of old.slots.items) k) x ∙ ap (λ u. give_run u x) (sym is)) step

pub global_step : (p : ProgramTree) (n : ℕ) (r : Result Unit Stop) (old new : Machine) (k : ℕ) (v : Value) → v ≡ address_in 0 (global_sizes p) k →
    IsStep p n r old new (give_run (Some v)) → IsStep p n r old new (expr_task_run p n (task.global_at k))
global_step p n r old new k v is step =
    same_step p n r old new (expr_task_run p n (task.global_at k)) (give_run (Some v)) (λ m i held. ap (λ u. give_run (Some u) (config_of old m i)) (sym is)) step

abbrev pub with_slots : Machine → Vec Slot Global → Machine
with_slots m s = record { tasks = m.tasks; operands = m.operands; frame = m.frame; slots = s; callers = m.callers; flow = m.flow; store = m.store; status = m.status; spare = m.spare }

abbrev pub with_status : Machine → ℕ → Machine
with_status m k = record { tasks = m.tasks; operands = m.operands; frame = m.frame; slots = m.slots; callers = m.callers; flow = m.flow; store = m.store; status = k; spare = m.spare }

-- the end of the program
pub exit_step : (p : ProgramTree) (n : ℕ) (old new : Machine) (few : Vec Value Global) (v : Value) (w : ℕ) → old.operands.items ≡ few.items ++ v ∷ [] → number v ≡ Some w → new.status ≡ w % 256 →
    IsStep p n (Err stop.Exit) old new (expr_task_run p n task.end_program)
exit_step p n old new few v w e is last m held i =
    end-exit (expr_task_run p n task.end_program (config_of old m i)) new.status
    (ap (λ vs. expr_task_run p n task.end_program (with_operands (config_of old m i) vs)) (newest-one few.items old.operands.items v e)
    ∙ on-number v (λ u. Exited [] (u % 256)) ∙ ap (λ o. on_defined o (λ u. Exited [] (u % 256))) is ∙ ap (Exited []) (sym last))

-- ---- statements

module _ (p : ProgramTree) (n : ℕ) (r : Result Unit Stop) (old new : Machine) (few : Vec Value Global) where
  pub branch_step : (v : Value) (e : ExprTree) (a b : StmtTree) (d : Option Bool) → old.operands.items ≡ few.items ++ v ∷ [] → d ≡ truth (type_of e) v →
      IsStep p n r (with_ops old few) new (choose_run d (tasks_do p n (of_stmt (stmt.run_stmt a) ∷ [])) (tasks_do p n (of_stmt (stmt.run_stmt b) ∷ []))) →
      IsStep p n r old new (stmt_task_run p n (stmt.branch (tree.if_else e a b)))
  branch_step v e a b d popped is step =
      one p n r old new few v (stmt_task_run p n (stmt.branch (tree.if_else e a b)))
      (choose_run d (tasks_do p n (of_stmt (stmt.run_stmt a) ∷ [])) (tasks_do p n (of_stmt (stmt.run_stmt b) ∷ []))) popped
      (λ m i held.
      decided p n r old new few (type_of e) v d (tasks_do p n (of_stmt (stmt.run_stmt a) ∷ []) (here p n r old new few m i))
      (tasks_do p n (of_stmt (stmt.run_stmt b) ∷ []) (here p n r old new few m i)) is)
      step

  pub select_step : (v : Value) (w : ℕ) (e : ExprTree) (gs hs : GroupTrees) → old.operands.items ≡ few.items ++ v ∷ [] → number v ≡ Some w → hs ≡ chosen_groups w gs →
      IsStep p n r (with_ops old few) new (tasks_do p n (of_stmt (stmt.run_groups hs) ∷ [])) → IsStep p n r old new (stmt_task_run p n (stmt.select (tree.switch e gs)))
  select_step v w e gs hs popped is chosen step =
      one p n r old new few v (stmt_task_run p n (stmt.select (tree.switch e gs))) (tasks_do p n (of_stmt (stmt.run_groups hs) ∷ [])) popped
      (λ m i held.
      let y : Configuration = here p n r old new few m i in
      on-number v (λ u. groups_run p n (chosen_groups u gs) y) ∙ ap (λ o. on_defined o (λ u. groups_run p n (chosen_groups u gs) y)) is ∙ ap (λ g. groups_run p n g y) (sym chosen))
      step

  -- a condition that is true
  pub asked_true : (v : Value) (t : TypeTree) (next : Configuration → Answer Reached) → old.operands.items ≡ few.items ++ v ∷ [] → Some true ≡ truth t v →
      IsStep p n r (with_ops old few) new next → IsStep p n r old new (asked_do t next)
  asked_true v t next popped is step =
      one p n r old new few v (asked_do t next) next popped
      (λ m i held. let y : Configuration = here p n r old new few m i in decided p n r old new few t v (Some true) (next y) (reaches normal y) is) step

  pub begin_step : (v : Value) (k : ℕ) (t : TypeTree) (at : Value) (w : Option Value) → old.operands.items ≡ few.items ++ v ∷ [] →
      at ≡ address_in old.frame.objects.first (object_sizes p (variables_of p old.frame.function)) k → w ≡ used_value v →
      IsStep p n r (with_ops old few) new (store_run t at w) → IsStep p n r old new (stmt_task_run p n (stmt.begin_object k t))
  begin_step v k t at w popped is used_is step =
      one p n r old new few v (stmt_task_run p n (stmt.begin_object k t)) (store_run t at w) popped
      (λ m i held.
      let y : Configuration = here p n r old new few m i in
      let object : Value = address_in old.frame.objects.first (object_sizes p (variables_of p old.frame.function)) k in
      store-begins t object v y ∙ ap (λ a. store_run t a (used_value v) y) (sym is) ∙ ap (λ u. store_run t at u y) (sym used_is))
      step

  pub element_step : (v : Value) (k o : ℕ) (t : TypeTree) (at : Value) (w : Option Value) → old.operands.items ≡ few.items ++ v ∷ [] →
      at ≡ bytes_into (address_in old.frame.objects.first (object_sizes p (variables_of p old.frame.function)) k) o → w ≡ used_value v →
      IsStep p n r (with_ops old few) new (store_run t at w) → IsStep p n r old new (stmt_task_run p n (stmt.begin_element k o t))
  element_step v k o t at w popped is used_is step =
      one p n r old new few v (stmt_task_run p n (stmt.begin_element k o t)) (store_run t at w) popped
      (λ m i held.
      let y : Configuration = here p n r old new few m i in
      let object : Value = bytes_into (address_in old.frame.objects.first (object_sizes p (variables_of p old.frame.function)) k) o in
      store-begins t object v y ∙ ap (λ a. store_run t a (used_value v) y) (sym is) ∙ ap (λ u. store_run t at u y) (sym used_is))
      step

pub asked_false : (p : ProgramTree) (n : ℕ) (u : Unit) (old : Machine) (few : Vec Value Global) (v : Value) (t : TypeTree) (next : Configuration → Answer Reached) → old.flow ≡ Normal →
    old.operands.items ≡ few.items ++ v ∷ [] → Some false ≡ truth t v → IsStep p n (Ok u) old (with_ops old few) (asked_do t next)
asked_false p n u old few v t next flow popped is =
    one p n (Ok u) old (with_ops old few) few v (asked_do t next) nothing_run popped
    (λ m i held.
    let y : Configuration = here p n (Ok u) old (with_ops old few) few m i in decided p n (Ok u) old (with_ops old few) few t v (Some false) (next y) (reaches normal y) is)
    (nothing_step p n u (with_ops old few) flow)

-- ---- jumps

abbrev pub with_flow : Machine → Flow → Machine
with_flow m f = record { tasks = m.tasks; operands = m.operands; frame = m.frame; slots = m.slots; callers = m.callers; flow = f; store = m.store; status = m.status; spare = m.spare }

-- a jump takes another course
pub flow_step : (p : ProgramTree) (n : ℕ) (u : Unit) (old : Machine) (f : Flow) (run : Configuration → Answer Reached) → ((x : Configuration) → run x ≡ reaches (flow_of f) x) → IsStep p n (Ok u) old (with_flow old f) run
flow_step p n u old f run does m held =
    let held' : IsHeld p (with_flow old f) m = record { store = held.store; counts = held.counts } in
    done_at_once p n old (with_flow old f) (λ i. run (config_of old m i)) m refl held' (λ i. does (config_of old m i))

pub return_step : (p : ProgramTree) (n : ℕ) (u : Unit) (old : Machine) (few : Vec Value Global) (v w : Value) → old.operands.items ≡ few.items ++ v ∷ [] → used_value v ≡ Some w →
    IsStep p n (Ok u) old (with_flow (with_ops old few) (JumpedBack (Some w))) (stmt_task_run p n stmt.return_it)
return_step p n u old few v w popped is =
    let last : Machine = with_flow (with_ops old few) (JumpedBack (Some w)) in
    one p n (Ok u) old last few v (stmt_task_run p n stmt.return_it) (reaches (returned (Some w))) popped
    (λ m i held.
    let y : Configuration = here p n (Ok u) old last few m i in
    used-is v (λ z. reaches (returned (Some z)) y) ∙ ap (λ o. on_defined o (λ z. reaches (returned (Some z)) y)) is)
    (flow_step p n u (with_ops old few) (JumpedBack (Some w)) (reaches (returned (Some w))) (λ x. refl))

pub switch-stays : (p : ProgramTree) (n : ℕ) (f : Flow) (x : Configuration) → (f ≡ Broke → ⊥) → handler_run p n stmt.end_switch (flow_of f) x ≡ reaches (flow_of f) x
switch-stays p n Normal x h = refl
switch-stays p n Broke x h = absurd (h refl)
switch-stays p n Continued x h = refl
switch-stays p n (JumpedBack v) x h = refl

-- ---- scopes

-- the variables in scope have changed, and no more
pub slots_step : (p : ProgramTree) (n : ℕ) (u : Unit) (old : Machine) (s : Vec Slot Global) (run : Configuration → Answer Reached) →
    ((m : Memory) (i : List ℕ) → run (config_of old m i) ≡ reaches (flow_of old.flow) (config_of (with_slots old s) m i)) → IsStep p n (Ok u) old (with_slots old s) run
slots_step p n u old s run does m held =
    let held' : IsHeld p (with_slots old s) m = record { store = held.store; counts = held.counts } in
    done_at_once p n old (with_slots old s) (λ i. run (config_of old m i)) m refl held' (does m)

-- ---- what begins

pub cleared_step : (p : ProgramTree) (n : ℕ) (u : Unit) (old : Machine) (s : Store) (k : ℕ) (at : Value) → old.flow ≡ Normal →
    at ≡ address_in old.frame.objects.first (object_sizes p (variables_of p old.frame.function)) k → ((calls : List Opened) (m : Memory) → Holds old.store calls m → IsChanged calls (cleared_at at m) s true) →
    IsStep p n (Ok u) old (with_store old s) (stmt_task_run p n (stmt.clear_object k))
cleared_step p n u old s k at flow is clears =
    changed_step p n u old s (stmt_task_run p n (stmt.clear_object k)) flow
    (λ m held. by m (cleared_at at m) refl (clears (calls_in old) m held.store))
  where
    object : Value
    object = address_in old.frame.objects.first (object_sizes p (variables_of p old.frame.function)) k

    by : (m : Memory) (o : Option Memory) → cleared_at at m ≡ o → IsChanged (calls_in old) o s true →
        (j : Memory) × Holds s (calls_in old) j × ((i : List ℕ) → stmt_task_run p n (stmt.clear_object k) (config_of old m i) ≡ reaches normal (config_of old j i))
    by m None e h = absurd (false≢true (sym h))
    by m (Some j) e h = (
      j,
      h.1,
      λ i.
          ap (λ o. on_defined o (λ q. goes_on_at (config_of old m i) (state.with_memory (state_of (config_of old m i)) q))) (zeros-are object m ∙ ap (λ a. cleared_at a m) (sym is) ∙ e),
    )

pub not_cleared_step : (p : ProgramTree) (n : ℕ) (old new : Machine) (s : Store) (k : ℕ) (at : Value) →
    at ≡ address_in old.frame.objects.first (object_sizes p (variables_of p old.frame.function)) k → ((calls : List Opened) (m : Memory) → Holds old.store calls m → IsChanged calls (cleared_at at m) s false) →
    IsStep p n (Err stop.Undefined) old new (stmt_task_run p n (stmt.clear_object k))
not_cleared_step p n old new s k at is clears =
    undefined_step p n old new (stmt_task_run p n (stmt.clear_object k))
    (λ m i held. by m i (cleared_at at m) refl (clears (calls_in old) m held.store))
  where
    object : Value
    object = address_in old.frame.objects.first (object_sizes p (variables_of p old.frame.function)) k

    by : (m : Memory) (i : List ℕ) (o : Option Memory) → cleared_at at m ≡ o → IsChanged (calls_in old) o s false → stmt_task_run p n (stmt.clear_object k) (config_of old m i) ≡ Undefined []
    by m i None e h =
        ap (λ o. on_defined o (λ q. goes_on_at (config_of old m i) (state.with_memory (state_of (config_of old m i)) q))) (zeros-are object m ∙ ap (λ a. cleared_at a m) (sym is) ∙ e)
    by m i (Some j) e h = absurd (false≢true h.0)

-- a variable comes into scope
pub enter_step : (p : ProgramTree) (n : ℕ) (u : Unit) (old : Machine) (s : Vec Slot Global) (k : ℕ) (slot : Slot) → old.flow ≡ Normal → s.items ≡ old.slots.items ++ slot ∷ [] →
    Some (slot_of slot) ≡ slot_begun (variables_of p old.frame.function) k (slice_get (variables_of p old.frame.function) k) → IsStep p n (Ok u) old (with_slots old s) (stmt_task_run p n (stmt.enter k))
enter_step p n u old s k slot flow pushed is =
    slots_step p n u old s (stmt_task_run p n (stmt.enter k))
    (λ m i.
    let x : Configuration = config_of old m i in
    let vs : List VariableTree = variables_of p old.frame.function in
    ap (λ o. on_defined o (goes_on_at x)) (entered-is vs k (slice_get vs k) (state_of x) ∙ ap (option_map (in_scope (state_of x))) (sym is))
    ∙ ap (λ q. reaches normal (with_frame_slots x q)) (sym (ap slots_of pushed ∙ map-append slot_of old.slots.items (slot ∷ [])))
    ∙ ap (λ f. reaches (flow_of f) (config_of (with_slots old s) m i)) (sym flow))

pub not_entered_step : (p : ProgramTree) (n : ℕ) (old new : Machine) (k : ℕ) → None ≡ slot_begun (variables_of p old.frame.function) k (slice_get (variables_of p old.frame.function) k) →
    IsStep p n (Err stop.Undefined) old new (stmt_task_run p n (stmt.enter k))
not_entered_step p n old new k is =
    undefined_step p n old new (stmt_task_run p n (stmt.enter k))
    (λ m i held.
    let x : Configuration = config_of old m i in
    let vs : List VariableTree = variables_of p old.frame.function in
    ap (λ o. on_defined o (goes_on_at x)) (entered-is vs k (slice_get vs k) (state_of x) ∙ ap (option_map (in_scope (state_of x))) (sym is)))

-- the newest variable takes a value
pub slot_begun_step : (p : ProgramTree) (n : ℕ) (u : Unit) (old : Machine) (few : Vec Value Global) (s : Vec Slot Global) (v w : Value) → old.flow ≡ Normal → old.operands.items ≡ few.items ++ v ∷ [] →
    used_value v ≡ Some w → s.items ≡ take (length old.slots.items - 1) old.slots.items ++ HeldSlot w ∷ [] → IsStep p n (Ok u) old (with_slots (with_ops old few) s) (stmt_task_run p n stmt.begin_slot)
slot_begun_step p n u old few s v w flow popped is pushed =
    let last : Machine = with_slots (with_ops old few) s in
    let written : Value → Configuration → Answer Reached = λ z y. goes_on_at y (newest_written (state_of y) z) in
    one p n (Ok u) old last few v (stmt_task_run p n stmt.begin_slot) (written w) popped
    (λ m i held. let y : Configuration = here p n (Ok u) old last few m i in used-is v (λ z. written z y) ∙ ap (λ o. on_defined o (λ z. written z y)) is)
    (slots_step p n u (with_ops old few) s (written w)
    (λ m i.
    let x : Configuration = config_of (with_ops old few) m i in
    let slots : List Slot = old.slots.items in
    let same : slots_of s.items ≡ take (length (slots_of slots) - 1) (slots_of slots) ++ holds w ∷ [] =
    ap slots_of pushed ∙ map-append slot_of (take (length slots - 1) slots) (HeldSlot w ∷ [])
    ∙ ap (λ l. l ++ holds w ∷ []) (sym (take-map slot_of (length slots - 1) slots) ∙ ap (λ c. take (c - 1) (slots_of slots)) (sym (length-map slots slot_of))) in
    ap (λ q. reaches normal (with_frame_slots x q)) (sym same) ∙ ap (λ f. reaches (flow_of f) (config_of last m i)) (sym flow)))

pub scope_step : (p : ProgramTree) (n : ℕ) (u : Unit) (old : Machine) (s : Vec Slot Global) (count : ℕ) → s.items ≡ take count old.slots.items →
    IsStep p n (Ok u) old (with_slots old s) (handler_run p n (stmt.end_scope count) (flow_of old.flow))
scope_step p n u old s count is =
    slots_step p n u old s (handler_run p n (stmt.end_scope count) (flow_of old.flow))
    (λ m i. ap (λ q. reaches (flow_of old.flow) (with_frame_slots (config_of old m i) q)) (take-map slot_of count old.slots.items ∙ ap slots_of (sym is)))

-- characters are stored
pub characters_step : (p : ProgramTree) (n : ℕ) (r : Result Unit Stop) (old : Machine) (s : Store) (k o : ℕ) (cs : List ℕ) (object : Value) → old.flow ≡ Normal →
    object ≡ address_in old.frame.objects.first (object_sizes p (variables_of p old.frame.function)) k →
    ((calls : List Opened) (m : Memory) → Holds old.store calls m → IsStored calls (characters_stored object o cs m) s r) → IsStep p n r old (with_store old s) (stmt_task_run p n (stmt.begin_characters k o cs))
characters_step p n (Ok u) old s k o cs object flow is stores =
    changed_step p n u old s (stmt_task_run p n (stmt.begin_characters k o cs)) flow
    (λ m held. by m (characters_stored object o cs m) refl (stores (calls_in old) m held.store))
  where
    by : (m : Memory) (q : Option Memory) → characters_stored object o cs m ≡ q → IsSomeHeld (calls_in old) q s →
        (j : Memory) × Holds s (calls_in old) j × ((i : List ℕ) → stmt_task_run p n (stmt.begin_characters k o cs) (config_of old m i) ≡ reaches normal (config_of old j i))
    by m None e h = absurd h
    by m (Some j) e h = (
      j,
      h,
      λ i.
          ap (λ q. on_defined q (λ z. goes_on_at (config_of old m i) (state.with_memory (state_of (config_of old m i)) z))) (ap (λ a. characters_stored a o cs m) (sym is) ∙ e),
    )
characters_step p n (Err stop.Undefined) old s k o cs object flow is stores =
    undefined_step p n old (with_store old s) (stmt_task_run p n (stmt.begin_characters k o cs))
    (λ m i held.
    ap (λ q. on_defined q (λ z. goes_on_at (config_of old m i) (state.with_memory (state_of (config_of old m i)) z)))
    (ap (λ a. characters_stored a o cs m) (sym is) ∙ stores (calls_in old) m held.store))
characters_step p n (Err stop.NoMemory) old s k o cs object flow is stores = λ m held i. tt
characters_step p n (Err stop.Exit) old s k o cs object flow is stores = λ m held i. absurd (stores (calls_in old) m held.store)
characters_step p n (Err stop.Cut) old s k o cs object flow is stores = λ m held i. absurd (stores (calls_in old) m held.store)
characters_step p n (Err stop.ReadFault) old s k o cs object flow is stores = λ m held i. absurd (stores (calls_in old) m held.store)
characters_step p n (Err stop.WriteFault) old s k o cs object flow is stores = λ m held i. absurd (stores (calls_in old) m held.store)
