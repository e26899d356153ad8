-- Assignments of which the value is dropped, where they are done at once, and what comes after them.
use Rattle.std.proofs.Common.{Vec, Global, ◌≡◌, ℕ, Bool, true, false, if◌then◌else◌, List, [], refl, sym, ap, ◌∙◌, subst}
use Rattle.std.specs.Prelude.{Option, None, Some, slice_get, slice_set, Result, Ok, Err}
use Rattle.std.proofs.lemmas.Bool.{false≢true}
use Rattle.val_core.specs.declared.values.Value.{Value}
use Rattle.val_core.specs.declared.values.Value.TheVariants.{Num, At, Bad}
use Rattle.val_core.specs.Memory.{Memory, store}
use Rattle.val_core.specs.Answers.{Answer, Undefined, then_on, on_defined}
use Rattle.c_type.specs.Trees.{TypeTree}
use Rattle.c_typed.specs.declared.operator.IncDec.{IncDec}
use Rattle.c_typed.specs.Typed as tree
use Rattle.c_typed.specs.Typed.{ExprTree, expr, assign, inc_dec, some_expr, PlaceTree, place, ProgramTree}
use Rattle.c_typed.specs.Objects.{access_width}
use Rattle.c_mean.specs.State as state
use Rattle.c_mean.specs.State.{Slot, holds, object, State, Valued, gives, used, converted}
use Rattle.c_mean.specs.Expressions.{Context, in_slot, slot_value, spot_read, spot_written, stepped, expr_run}
use Rattle.c_mean.specs.Statements.{normal}
use Rattle.c_interp_store.specs.declared.store.Store.{Store}
use Rattle.c_interp_store.specs.Holding.{Opened, Holds, IsChanged}
use Rattle.c_interp_store.specs.Operators.{used_value}
use Rattle.c_interp_def.specs.Configurations.{Configuration, Reached, reaches, state_of, gives_value}
use Rattle.c_interp_def.specs.ExprTasks as task
use Rattle.c_interp_def.specs.ExprTasks.{context, holds_value, value_slot}
use Rattle.c_interp_def.specs.StmtTasks.{StmtTask, of_expr, of_stmt, optional_tasks, stmt_task_run, task_run}
use Rattle.c_interp_def.proofs.PlaceLaws.{in-slot}
use Rattle.c_interp_def.specs.declared.task.Slot.{Slot as CodeSlot}
use Rattle.c_interp_def.specs.declared.task.Flow.TheVariants.{Normal}
use Rattle.c_interp_answer.specs.TaskViews.{slots_of, flow_of}
use Rattle.c_interp_answer.specs.declared.assignment.Assignment.{Assignment}
use Rattle.c_interp_answer.specs.Answered.{IsValue, IsAddress, IsWritten, slot_if, place_slot}
use Rattle.c_interp.specs.declared.stop.Stop.{Stop}
use Rattle.c_interp.specs.declared.stop.Stop.TheVariants as stop
use Rattle.c_interp.specs.declared.machine.Machine.{Machine}
use Rattle.c_interp.specs.Machines.{config_of, IsHeld}
use Rattle.c_interp.specs.Known.{Knows}
use Rattle.c_interp.specs.Steps.{IsStep, IsMoved, IsPerformed, tasks_do, set_run, store_run, with_memory, with_frame_slots, converted_value, old_of, slot_read}
use Rattle.c_interp.proofs.Steps.{with_store, calls_in, moved, done_at_once, undefined_step}
use Rattle.c_interp.proofs.StmtSteps.{with_slots}
use Rattle.c_interp.proofs.Operators.{step-sets}
use Rattle.c_interp.proofs.AtOnce.{stopped-then, written-moves, stored-at}

-- ---- what is done at once, and then another task

pub moved_step : (p : ProgramTree) (n : ℕ) (u : Unit) (old new : Machine) (run : Configuration → Answer Reached) → IsMoved p n old new run → IsStep p n (Ok u) old new run
moved_step p n u old new run h m held =
    let (k, held', does) = h.to m held in
    done_at_once p n old new (λ i. run (config_of old m i)) k h.tasks held' (λ i. does i ∙ ap (λ f. reaches (flow_of f) (config_of new k i)) (sym h.flow))

pub moved_then : (p : ProgramTree) (n : ℕ) (r : Result Unit Stop) (old mid new : Machine) (run : Configuration → Answer Reached) (t : StmtTask) → IsMoved p n old mid run →
    IsStep p n r mid new (stmt_task_run p n t) → IsStep p n r old new (λ x. then_on (run x) (task_run p n (of_stmt t)))
moved_then p n r old mid new run t h step =
    moved p n r old mid new (λ x. then_on (run x) (task_run p n (of_stmt t))) (stmt_task_run p n t) h.tasks
    (λ m held. let (k, held', does) = h.to m held in (k, held', λ i. ap (λ a. then_on a (task_run p n (of_stmt t))) (does i))) step

pub is_moved : (p : ProgramTree) (n : ℕ) (d : Bool) (old new : Machine) (run : Configuration → Answer Reached) → d ≡ true → IsPerformed p n (Ok d) old new run → IsMoved p n old new run
is_moved p n true old new run e h = h
is_moved p n false old new run e h = absurd (false≢true e)

-- nothing was done
pub not_performed : (p : ProgramTree) (n : ℕ) (d : Bool) (r : Result Unit Stop) (old mid new : Machine) (run run' : Configuration → Answer Reached) → d ≡ false → IsPerformed p n (Ok d) old mid run →
    IsStep p n r mid new run' → IsStep p n r old new run'
not_performed p n true r old mid new run run' e h step = absurd (false≢true (sym e))
not_performed p n false r old mid new run run' e h step = subst (λ (z : Machine). IsStep p n r z new run') h step

-- the run ends before what comes then
pub stopped_then : (p : ProgramTree) (n : ℕ) (s : Stop) (old new : Machine) (run : Configuration → Answer Reached) (next : Reached → Answer Reached) → IsStep p n (Err s) old new run → IsStep p n (Err s) old new (λ x. then_on (run x) next)
stopped_then p n s old new run next step m held i = stopped-then new.status s (run (config_of old m i)) next (step m held i)

-- no jump is on its way
pub performed_flow : (p : ProgramTree) (n : ℕ) (d : Bool) (old new : Machine) (run : Configuration → Answer Reached) → IsPerformed p n (Ok d) old new run → old.flow ≡ Normal → new.flow ≡ Normal
performed_flow p n true old new run h flow = h.flow
performed_flow p n false old new run h flow = ap (λ (m : Machine). m.flow) h ∙ flow

-- ---- a variable that holds a value

slot-if-is : (k : ℕ) (o : Option Slot) → slot_if k o ≡ holds_value k o
slot-if-is k None = refl
slot-if-is k (Some (holds v)) = refl
slot-if-is k (Some (object j)) = refl

pub slot-is : (ss : List Slot) (q : PlaceTree) → place_slot ss q ≡ value_slot ss q
slot-is ss (place t (tree.local k)) = slot-if-is k (slice_get ss k)
slot-is ss (place t (tree.global k)) = refl
slot-is ss (place t (tree.at e)) = refl
slot-is ss (place t (tree.member q o)) = refl

pub written_moved : (p : ProgramTree) (n : ℕ) (old : Machine) (slots : Vec CodeSlot Global) (e : ExprTree) (w : Assignment) → old.flow ≡ Normal → Knows p n old (λ c s. IsWritten c e s (Some w)) →
    slots_of slots.items ≡ slice_set (slots_of old.slots.items) w.slot (holds (Num w.word)) → IsMoved p n old (with_slots old slots) (tasks_do p n (optional_tasks (some_expr e)))
written_moved p n old slots e w flow known set = record {
  tasks = refl;
  flow = flow;
  to = λ m held. (m, record { store = held.store; counts = held.counts }, λ i. written-moves p n old slots e w m i held known set);
}

module _ (p : ProgramTree) (n : ℕ) (old : Machine) (t : TypeTree) (q : PlaceTree) where
  -- the value of an expression is dropped
  abbrev dropped : Configuration → Answer Valued → Answer Reached
  dropped x a = then_on (then_on a (gives_value x)) (task_run p n (of_expr task.discard))

  abbrev set_at : ℕ → Option Value → Configuration → Answer Reached
  set_at k v x = on_defined v (λ w. reaches normal (with_frame_slots x (slice_set x.frame.slots k (holds w))))

  dropped-set : (k : ℕ) (v : Value) (x : Configuration) → dropped x (used v (λ b. spot_written t (in_slot k) b (state_of x))) ≡ set_at k (used_value v) x
  dropped-set k Bad x = refl
  dropped-set k (Num w) x = refl
  dropped-set k (At b o) x = refl

  assigned-is : (a : ExprTree) (k : ℕ) (v : Value) (m : Memory) (i : List ℕ) → IsHeld p old m → Some k ≡ place_slot (slots_of old.slots.items) q → Knows p n old (λ c s. IsValue c a s (Some v)) →
      tasks_do p n (optional_tasks (some_expr (expr t (assign q a)))) (config_of old m i) ≡ set_at k (used_value v) (config_of old m i)
  assigned-is a k v m i held at value =
      let x : Configuration = config_of old m i in
      let c : Context = context p n x in
      ap (λ z. dropped x (then_on z (λ y. then_on (expr_run c a y.state) (λ d. used d.value (λ b. spot_written t y.spot b d.state)))))
      (in-slot c q k (state_of x) (sym (slot-is (slots_of old.slots.items) q) ∙ sym at))
      ∙ ap (λ z. dropped x (then_on z (λ d. used d.value (λ b. spot_written t (in_slot k) b d.state)))) (value m i held)
      ∙ dropped-set k v x

  pub assigned_moved : (a : ExprTree) (slots : Vec CodeSlot Global) (k : ℕ) (v w : Value) → old.flow ≡ Normal → Some k ≡ place_slot (slots_of old.slots.items) q → Knows p n old (λ c s. IsValue c a s (Some v)) →
      Some w ≡ used_value v → slots_of slots.items ≡ slice_set (slots_of old.slots.items) k (holds w) → IsMoved p n old (with_slots old slots) (tasks_do p n (optional_tasks (some_expr (expr t (assign q a)))))
  assigned_moved a slots k v w flow at value is set = record {
    tasks = refl;
    flow = flow;
    to = λ m held. (
      m,
      record { store = held.store; counts = held.counts },
      λ i.
          let x : Configuration = config_of old m i in
          assigned-is a k v m i held at value ∙ ap (λ o. set_at k o x) (sym is) ∙ ap (λ l. reaches normal (with_frame_slots x l)) (sym set),
    );
  }

  pub not_assigned : (a : ExprTree) (new : Machine) (k : ℕ) (v : Value) → Some k ≡ place_slot (slots_of old.slots.items) q → Knows p n old (λ c s. IsValue c a s (Some v)) → None ≡ used_value v →
      IsStep p n (Err stop.Undefined) old new (tasks_do p n (optional_tasks (some_expr (expr t (assign q a)))))
  not_assigned a new k v at value none =
      undefined_step p n old new (tasks_do p n (optional_tasks (some_expr (expr t (assign q a)))))
      (λ m i held. assigned-is a k v m i held at value ∙ ap (λ o. set_at k o (config_of old m i)) (sym none))

  -- ---- to an object

  pub stored_moved : (a : ExprTree) (s : Store) (at v w : Value) (width : ℕ) (d : Bool) → old.flow ≡ Normal → Knows p n old (λ c s. IsAddress c q s (Some at)) → Knows p n old (λ c s. IsValue c a s (Some v)) →
      Some w ≡ used_value v → width ≡ access_width t → d ≡ true → ((calls : List Opened) (m : Memory) → Holds old.store calls m → IsChanged calls (store width at w m) s d) →
      IsMoved p n old (with_store old s) (tasks_do p n (optional_tasks (some_expr (expr t (assign q a)))))
  stored_moved a s at v w width d flow where_is value is width_is done changes = record {
    tasks = refl;
    flow = flow;
    to = λ m held. by m held (store width at w m) refl (changes (calls_in old) m held.store);
  }
    where
      by : (m : Memory) → IsHeld p old m → (o : Option Memory) → store width at w m ≡ o → IsChanged (calls_in old) o s d →
          (k : Memory) × IsHeld p (with_store old s) k × ((i : List ℕ) → tasks_do p n (optional_tasks (some_expr (expr t (assign q a)))) (config_of old m i) ≡ reaches normal (config_of (with_store old s) k i))
      by m held None e h = absurd (false≢true (sym h ∙ done))
      by m held (Some k) e h = (
        k,
        record { store = h.1; counts = held.counts },
        λ i.
            let x : Configuration = config_of old m i in
            stored-at p n old t q a at v m i held where_is value
            ∙ ap (λ o. store_run t at o x) (sym is)
            ∙ ap (λ b. on_defined (store b at w m) (λ j. reaches normal (with_memory x j))) (sym width_is)
            ∙ ap (λ o. on_defined o (λ j. reaches normal (with_memory x j))) e,
      )

  pub not_stored : (a : ExprTree) (new : Machine) (s : Store) (at v w : Value) (width : ℕ) (d : Bool) → Knows p n old (λ c s. IsAddress c q s (Some at)) → Knows p n old (λ c s. IsValue c a s (Some v)) →
      Some w ≡ used_value v → width ≡ access_width t → d ≡ false → ((calls : List Opened) (m : Memory) → Holds old.store calls m → IsChanged calls (store width at w m) s d) →
      IsStep p n (Err stop.Undefined) old new (tasks_do p n (optional_tasks (some_expr (expr t (assign q a)))))
  not_stored a new s at v w width d where_is value is width_is done changes =
      undefined_step p n old new (tasks_do p n (optional_tasks (some_expr (expr t (assign q a)))))
      (λ m i held. by m i held (store width at w m) refl (changes (calls_in old) m held.store))
    where
      by : (m : Memory) (i : List ℕ) → IsHeld p old m → (o : Option Memory) → store width at w m ≡ o → IsChanged (calls_in old) o s d →
          tasks_do p n (optional_tasks (some_expr (expr t (assign q a)))) (config_of old m i) ≡ Undefined []
      by m i held None e h =
          let x : Configuration = config_of old m i in
          stored-at p n old t q a at v m i held where_is value
          ∙ ap (λ o. store_run t at o x) (sym is)
          ∙ ap (λ b. on_defined (store b at w m) (λ j. reaches normal (with_memory x j))) (sym width_is)
          ∙ ap (λ o. on_defined o (λ j. reaches normal (with_memory x j))) e
      by m i held (Some k) e h = absurd (false≢true (sym done ∙ h.0))

  pub none_stored : (a : ExprTree) (new : Machine) (at v : Value) → Knows p n old (λ c s. IsAddress c q s (Some at)) → Knows p n old (λ c s. IsValue c a s (Some v)) → None ≡ used_value v →
      IsStep p n (Err stop.Undefined) old new (tasks_do p n (optional_tasks (some_expr (expr t (assign q a)))))
  none_stored a new at v where_is value none =
      undefined_step p n old new (tasks_do p n (optional_tasks (some_expr (expr t (assign q a)))))
      (λ m i held. stored-at p n old t q a at v m i held where_is value ∙ ap (λ o. store_run t at o (config_of old m i)) (sym none))

  -- ---- `++` and `--`

  pub read-is : (k : ℕ) (s : State) → spot_read t (in_slot k) s ≡ on_defined (slot_read (slice_get s.slots k)) (gives s)
  read-is k s = by (slice_get s.slots k)
    where
      used-reads : (v : Value) → used v (gives s) ≡ on_defined (used_value v) (gives s)
      used-reads Bad = refl
      used-reads (Num w) = refl
      used-reads (At b o) = refl

      by : (o : Option Slot) → used (slot_value o) (gives s) ≡ on_defined (slot_read o) (gives s)
      by None = refl
      by (Some (holds v)) = used-reads v
      by (Some (object j)) = refl

  set-dropped : (k : ℕ) (v g : Option Value) (x : Configuration) → then_on (set_run k v g x) (task_run p n (of_expr task.discard)) ≡ set_at k v x
  set-dropped k None g x = refl
  set-dropped k (Some v) g x = refl

  abbrev step_left : IncDec → (k : ℕ) → Configuration → Value → Answer Reached
  step_left i k x v =
      dropped x
      (on_defined (stepped i t v (state_of x)) (λ u. used (converted t u) (λ w. then_on (spot_written t (in_slot k) w (state_of x)) (λ y. gives y.state (if i.gives_old then v else w)))))

  stepped-is : (i : IncDec) (k : ℕ) (m : Memory) (input : List ℕ) → Some k ≡ place_slot (slots_of old.slots.items) q →
      tasks_do p n (optional_tasks (some_expr (expr t (inc_dec i q)))) (config_of old m input) ≡ on_defined (slot_read (slice_get (slots_of old.slots.items) k)) (step_left i k (config_of old m input))
  stepped-is i k m input at =
      let x : Configuration = config_of old m input in
      let s : State = state_of x in
      let c : Context = context p n x in
      let left : Valued → Answer Valued =
      λ o. on_defined (stepped i t o.value o.state) (λ u. used (converted t u) (λ w. then_on (spot_written t (in_slot k) w o.state) (λ y. gives y.state (if i.gives_old then o.value else w)))) in
      ap
      (λ z. dropped x (then_on z (λ y.
      then_on (spot_read t y.spot y.state) (λ o.
      on_defined (stepped i t o.value o.state) (λ u. used (converted t u) (λ w. then_on (spot_written t y.spot w o.state) (λ b. gives b.state (if i.gives_old then o.value else w))))))))
      (in-slot c q k s (sym (slot-is (slots_of old.slots.items) q) ∙ sym at))
      ∙ ap (λ z. dropped x (then_on z left)) (read-is k s)
      ∙ by left (slot_read (slice_get s.slots k)) x
    where
      by : (left : Valued → Answer Valued) (o : Option Value) (x : Configuration) →
          dropped x (then_on (on_defined o (gives (state_of x))) left) ≡ on_defined o (λ v. dropped x (left (record { value = v; state = state_of x })))
      by left None x = refl
      by left (Some v) x = refl

  pub stepped_moved : (i : IncDec) (slots : Vec CodeSlot Global) (k : ℕ) (v w : Value) (o : Option Value) → old.flow ≡ Normal → Some k ≡ place_slot (slots_of old.slots.items) q →
      Some v ≡ slot_read (slice_get (slots_of old.slots.items) k) → o ≡ Some w → ((calls : List Opened) (s : State) → Holds old.store calls s.memory → o ≡ converted_value t (stepped i t v s)) →
      slots_of slots.items ≡ slice_set (slots_of old.slots.items) k (holds w) → IsMoved p n old (with_slots old slots) (tasks_do p n (optional_tasks (some_expr (expr t (inc_dec i q)))))
  stepped_moved i slots k v w o flow at read is made set = record {
    tasks = refl;
    flow = flow;
    to = λ m held. (
      m,
      record { store = held.store; counts = held.counts },
      λ input.
          let x : Configuration = config_of old m input in
          stepped-is i k m input at
          ∙ ap (λ z. on_defined z (step_left i k x)) (sym read)
          ∙ ap (λ a. then_on a (task_run p n (of_expr task.discard))) (step-sets i t k v (stepped i t v (state_of x)) x)
          ∙ set-dropped k (converted_value t (stepped i t v (state_of x))) (old_of i v) x
          ∙ ap (λ z. set_at k z x) (sym (made (calls_in old) (state_of x) held.store) ∙ is)
          ∙ ap (λ l. reaches normal (with_frame_slots x l)) (sym set),
    );
  }

  pub not_stepped : (i : IncDec) (new : Machine) (k : ℕ) (v : Value) (o : Option Value) → Some k ≡ place_slot (slots_of old.slots.items) q → Some v ≡ slot_read (slice_get (slots_of old.slots.items) k) → o ≡ None →
      ((calls : List Opened) (s : State) → Holds old.store calls s.memory → o ≡ converted_value t (stepped i t v s)) →
      IsStep p n (Err stop.Undefined) old new (tasks_do p n (optional_tasks (some_expr (expr t (inc_dec i q)))))
  not_stepped i new k v o at read is made =
      undefined_step p n old new (tasks_do p n (optional_tasks (some_expr (expr t (inc_dec i q)))))
      (λ m input held.
      let x : Configuration = config_of old m input in
      stepped-is i k m input at
      ∙ ap (λ z. on_defined z (step_left i k x)) (sym read)
      ∙ ap (λ a. then_on a (task_run p n (of_expr task.discard))) (step-sets i t k v (stepped i t v (state_of x)) x)
      ∙ set-dropped k (converted_value t (stepped i t v (state_of x))) (old_of i v) x
      ∙ ap (λ z. set_at k z x) (sym (made (calls_in old) (state_of x) held.store) ∙ is))

  pub none_stepped : (i : IncDec) (new : Machine) (k : ℕ) → Some k ≡ place_slot (slots_of old.slots.items) q → None ≡ slot_read (slice_get (slots_of old.slots.items) k) →
      IsStep p n (Err stop.Undefined) old new (tasks_do p n (optional_tasks (some_expr (expr t (inc_dec i q)))))
  none_stepped i new k at none =
      undefined_step p n old new (tasks_do p n (optional_tasks (some_expr (expr t (inc_dec i q)))))
      (λ m input held. stepped-is i k m input at ∙ ap (λ z. on_defined z (step_left i k (config_of old m input))) (sym none))
