-- Statements that are begun at once, with those that stand in them.
use Rattle.std.proofs.Common.{Vec, Global, ◌≡◌, ℕ, not, Bool, true, false, if◌then◌else◌, List, [], ◌∷◌, ◌++◌, length, take, ◌-◌, refl, sym, ap, ◌∙◌}
use Rattle.std.specs.Prelude.{Option, None, Some, slice_get, Result, Err}
use Rattle.std.proofs.lemmas.Bool.{false≢true}
use Rattle.std.proofs.lemmas.List.{map-append, take-map, length-map}
use Rattle.val_core.specs.declared.values.Value.{Value}
use Rattle.val_core.specs.declared.values.Value.TheVariants.{Num, At, Bad}
use Rattle.val_core.specs.Memory.{Memory}
use Rattle.val_core.specs.Answers.{Answer, Undefined, then_on, on_defined}
use Rattle.c_typed.specs.Typed as tree
use Rattle.c_typed.specs.Typed.{ExprTree, OptionalExpr, some_expr, InitialTree, StmtTree, ItemTrees, declare_then, VariableTree, DeclarationTree, ProgramTree}
use Rattle.c_typed.specs.Objects.{object_number}
use Rattle.c_mean.specs.State.{holds, object, used}
use Rattle.c_mean.specs.Statements.{normal, newest_written}
use Rattle.c_interp_store.specs.Operators.{used_value}
use Rattle.c_interp_def.specs.Configurations.{Configuration, Reached, reaches, state_of, gives_value, goes_on_at, variables_of}
use Rattle.c_interp_def.specs.ExprTasks as task
use Rattle.c_interp_def.specs.StmtTasks as stmt
use Rattle.c_interp_def.specs.StmtTasks.{Task, of_expr, of_stmt, handler, entered, optional_tasks, stmt_tasks, initial_tasks, object_tasks, value_tasks, turn_tasks, turns_tasks, stmt_task_run, task_run, tasks_run}
use Rattle.c_interp_def.specs.Laws.{normally, IsLoop, tasks_or_cut}
use Rattle.c_interp_def.proofs.StmtLaws.{tasks-append, statement-expands, items-expand, turns-expand}
use Rattle.c_interp_def.specs.declared.task.Task.{Task as Left}
use Rattle.c_interp_def.specs.declared.task.Task.TheVariants.{Handler}
use Rattle.c_interp_def.specs.declared.task.Handler.TheVariants.{EndScope}
use Rattle.c_interp_def.specs.declared.task.Slot.{Slot}
use Rattle.c_interp_def.specs.declared.task.Slot.TheVariants.{Holds as HeldSlot}
use Rattle.c_interp_answer.specs.TaskViews.{slot_of, slots_of}
use Rattle.c_interp_answer.specs.Answered.{IsValue, IsTruth}
use Rattle.c_interp.specs.declared.stop.Stop.{Stop}
use Rattle.c_interp.specs.declared.stop.Stop.TheVariants as stop
use Rattle.c_interp.specs.declared.machine.Machine.{Machine}
use Rattle.c_interp.specs.Machines.{config_of, IsHeld}
use Rattle.c_interp.specs.Known.{Knows}
use Rattle.c_interp.specs.Steps.{IsStep, tasks_do, turns_do, loop_then, declared, declared_do, is_value, with_frame_slots}
use Rattle.c_interp.proofs.Steps.{with_tasks, moved, same_step, undefined_step}
use Rattle.c_interp.proofs.StmtSteps.{with_slots}
use Rattle.c_interp.proofs.AtOnce.{put_then, if-chosen}

-- ---- a statement that becomes tasks

pub expanded_step : (p : ProgramTree) (n : ℕ) (r : Result Unit Stop) (old new : Machine) (l a : StmtTree) (run : Configuration → Answer Reached) → l ≡ a →
    ((x : Configuration) → tasks_run p n (stmt_tasks n a) (normally x) ≡ run x) → IsStep p n r old new run → IsStep p n r old new (stmt_task_run p n (stmt.run_stmt l))
expanded_step p n r old new l a run is does step =
    same_step p n r old new (stmt_task_run p n (stmt.run_stmt l)) run
    (λ m i held.
    let x : Configuration = config_of old m i in
    ap (λ s. stmt_task_run p n (stmt.run_stmt s) x) is ∙ statement-expands p n a x ∙ does x)
    step

-- an expression statement, and then the items after it
pub value_items : (p : ProgramTree) (n : ℕ) (r : Result Unit Stop) (old new : Machine) (l : StmtTree) (e : ExprTree) (is : ItemTrees) → l ≡ tree.value e →
    IsStep p n r old new (tasks_do p n (of_stmt (stmt.run_items is) ∷ optional_tasks (some_expr e))) →
    IsStep p n r old new (tasks_do p n (of_stmt (stmt.run_items is) ∷ of_stmt (stmt.run_stmt l) ∷ []))
value_items p n r old new l e is here step =
    same_step p n r old new (tasks_do p n (of_stmt (stmt.run_items is) ∷ of_stmt (stmt.run_stmt l) ∷ [])) (tasks_do p n (of_stmt (stmt.run_items is) ∷ optional_tasks (some_expr e)))
    (λ m i held.
    let x : Configuration = config_of old m i in
    ap (λ s. then_on (stmt_task_run p n (stmt.run_stmt s) x) (task_run p n (of_stmt (stmt.run_items is)))) here
    ∙ ap (λ a. then_on a (task_run p n (of_stmt (stmt.run_items is)))) (statement-expands p n (tree.value e) x))
    step

-- a statement that does the same as another one, or nothing, and then the items after it
items-same : (p : ProgramTree) (n : ℕ) (r : Result Unit Stop) (old new : Machine) (a : StmtTree) (is : ItemTrees) (run : Configuration → Answer Reached) →
    ((m : Memory) (i : List ℕ) → IsHeld p old m → stmt_task_run p n (stmt.run_stmt a) (config_of old m i) ≡ run (config_of old m i)) →
    IsStep p n r old new (λ x. then_on (run x) (task_run p n (of_stmt (stmt.run_items is)))) → IsStep p n r old new (tasks_do p n (of_stmt (stmt.run_items is) ∷ of_stmt (stmt.run_stmt a) ∷ []))
items-same p n r old new a is run does step =
    same_step p n r old new (tasks_do p n (of_stmt (stmt.run_items is) ∷ of_stmt (stmt.run_stmt a) ∷ [])) (λ x. then_on (run x) (task_run p n (of_stmt (stmt.run_items is))))
    (λ m i held. ap (λ z. then_on z (task_run p n (of_stmt (stmt.run_items is)))) (does m i held)) step

pub null_items : (p : ProgramTree) (n : ℕ) (r : Result Unit Stop) (old new : Machine) (l : StmtTree) (is : ItemTrees) → l ≡ tree.null → IsStep p n r old new (stmt_task_run p n (stmt.run_items is)) →
    IsStep p n r old new (tasks_do p n (of_stmt (stmt.run_items is) ∷ of_stmt (stmt.run_stmt l) ∷ []))
null_items p n r old new l is here step =
    items-same p n r old new l is (reaches normal)
    (λ m i held. let x : Configuration = config_of old m i in ap (λ s. stmt_task_run p n (stmt.run_stmt s) x) here ∙ statement-expands p n tree.null x) step

-- an `if` whose condition is known
pub if_items : (p : ProgramTree) (n : ℕ) (r : Result Unit Stop) (old new : Machine) (l : StmtTree) (e : ExprTree) (a b chosen : StmtTree) (is : ItemTrees) (d : Bool) → l ≡ tree.if_else e a b →
    Knows p n old (λ c s. IsTruth c e s (Some d)) → (if d then a else b) ≡ chosen → IsStep p n r old new (tasks_do p n (of_stmt (stmt.run_items is) ∷ of_stmt (stmt.run_stmt chosen) ∷ [])) →
    IsStep p n r old new (tasks_do p n (of_stmt (stmt.run_items is) ∷ of_stmt (stmt.run_stmt l) ∷ []))
if_items p n r old new l e a b chosen is d here known picks step =
    items-same p n r old new l is (stmt_task_run p n (stmt.run_stmt chosen)) (λ m i held. if-chosen p n l e a b chosen d (config_of old m i) here (known m i held) picks) step

-- a loop, as its end and its turns
loop-ends : (p : ProgramTree) (n : ℕ) (l : StmtTree) (e : ExprTree) (s : OptionalExpr) (b : StmtTree) (x : Configuration) → l ≡ tree.loop (some_expr e) s b →
    stmt_task_run p n (stmt.run_stmt l) x ≡ then_on (stmt_task_run p n (stmt.run_turns n l) x) (task_run p n (handler stmt.end_switch))
loop-ends p n l e s b x here =
    ap (λ z. stmt_task_run p n (stmt.run_stmt z) x) here
    ∙ statement-expands p n (tree.loop (some_expr e) s b) x
    ∙ ap (λ z. then_on (stmt_task_run p n (stmt.run_turns n z) x) (task_run p n (handler stmt.end_switch))) (sym here)

pub loop_items : (p : ProgramTree) (n : ℕ) (r : Result Unit Stop) (old new : Machine) (l : StmtTree) (e : ExprTree) (s : OptionalExpr) (b : StmtTree) (is : ItemTrees) (run : Configuration → Answer Reached) →
    l ≡ tree.loop (some_expr e) s b → ((m : Memory) (i : List ℕ) → IsHeld p old m → stmt_task_run p n (stmt.run_turns n l) (config_of old m i) ≡ run (config_of old m i)) →
    IsStep p n r old new (loop_then p n is run) → IsStep p n r old new (tasks_do p n (of_stmt (stmt.run_items is) ∷ of_stmt (stmt.run_stmt l) ∷ []))
loop_items p n r old new l e s b is run here does step =
    items-same p n r old new l is (λ x. then_on (run x) (task_run p n (handler stmt.end_switch)))
    (λ m i held. loop-ends p n l e s b (config_of old m i) here ∙ ap (λ z. then_on z (task_run p n (handler stmt.end_switch))) (does m i held)) step

-- ---- a variable that comes into scope

entered-value : (vs : List VariableTree) (k : ℕ) (o : Option VariableTree) (i : InitialTree) (p : ProgramTree) (n : ℕ) (x : Configuration) → is_value o ≡ true →
    tasks_run p n (initial_tasks vs k o i) (normally x) ≡ tasks_run p n (value_tasks i) (normally x)
entered-value vs k None i p n x h = absurd (false≢true h)
entered-value vs k (Some v) i p n x h =
    elim v.is_object as (λ b. not b ≡ true → tasks_run p n (if b then object_tasks (object_number vs k) i else value_tasks i) (normally x) ≡ tasks_run p n (value_tasks i) (normally x)) [
      | true ↦ λ e. absurd (false≢true e)
      | false ↦ λ e. refl
    ] h

entered-holds : (vs : List VariableTree) (k : ℕ) (o : Option VariableTree) (x : Configuration) → is_value o ≡ true → on_defined (entered vs k o (state_of x)) (goes_on_at x) ≡ reaches normal (declared x)
entered-holds vs k None x h = absurd (false≢true h)
entered-holds vs k (Some v) x h =
    elim v.is_object as (λ b. not b ≡ true → reaches normal (with_frame_slots x (x.frame.slots ++ (if b then object (object_number vs k) else holds Bad) ∷ [])) ≡ reaches normal (declared x)) [
      | true ↦ λ e. absurd (false≢true e)
      | false ↦ λ e. refl
    ] h

-- the declaration is the tasks of its beginning, after the variable came into scope
declares : (p : ProgramTree) (n : ℕ) (d : DeclarationTree) (is : ItemTrees) (x : Configuration) → is_value (slice_get (variables_of p x.frame.function) d.variable) ≡ true →
    stmt_task_run p n (stmt.run_items (declare_then d is)) x ≡ declared_do p n d.initial is x
declares p n d is x h =
    let vs : List VariableTree = variables_of p x.frame.function in
    let o : Option VariableTree = slice_get vs d.variable in
    let begins : List Task = initial_tasks vs d.variable o d.initial in
    let last : Task = of_stmt (stmt.enter d.variable) in
    let next : Answer Reached → Answer Reached =
    λ a. then_on (then_on a (task_run p n (of_stmt (stmt.run_items is)))) (task_run p n (handler (stmt.end_scope (length x.frame.slots)))) in
    items-expand p n (declare_then d is) x
    ∙ ap next (tasks-append p n begins (last ∷ []) (normally x))
    ∙ ap (λ a. next (then_on a (tasks_run p n begins))) (entered-holds vs d.variable o x h)
    ∙ ap next (entered-value vs d.variable o d.initial p n (declared x) h)

pub declared_items : (p : ProgramTree) (n : ℕ) (r : Result Unit Stop) (old new : Machine) (all : ItemTrees) (d : DeclarationTree) (i : InitialTree) (is : ItemTrees) (b : Bool) → all ≡ declare_then d is → i ≡ d.initial →
    b ≡ is_value (slice_get (variables_of p old.frame.function) d.variable) → b ≡ true → IsStep p n r old new (declared_do p n i is) → IsStep p n r old new (stmt_task_run p n (stmt.run_items all))
declared_items p n r old new all d i is b here initial is_is h step =
    same_step p n r old new (stmt_task_run p n (stmt.run_items all)) (declared_do p n i is)
    (λ m input held.
    let x : Configuration = config_of old m input in
    ap (λ q. stmt_task_run p n (stmt.run_items q) x) here ∙ declares p n d is x (sym is_is ∙ h) ∙ ap (λ q. declared_do p n q is x) (sym initial))
    step

-- the end of its scope is put, and the variable has no value yet
pub declared_step : (p : ProgramTree) (n : ℕ) (r : Result Unit Stop) (old new : Machine) (many : Vec Left Global) (slots : Vec Slot Global) (count : ℕ) (i : InitialTree) (is : ItemTrees) → count ≡ length old.slots.items →
    many.items ≡ old.tasks.items ++ Handler (EndScope count) ∷ [] → slots.items ≡ old.slots.items ++ HeldSlot Bad ∷ [] →
    IsStep p n r (with_slots (with_tasks old many) slots) new (tasks_do p n (of_stmt (stmt.run_items is) ∷ value_tasks i)) → IsStep p n r old new (declared_do p n i is)
declared_step p n r old new many slots count i is counted pushed grown step =
    let run : Configuration → Answer Reached = tasks_do p n (of_stmt (stmt.run_items is) ∷ value_tasks i) in
    let mid : Machine = with_tasks old many in
    same_step p n r old new (declared_do p n i is) (λ x. then_on (run (declared x)) (task_run p n (handler (stmt.end_scope count))))
    (λ m input held.
    let x : Configuration = config_of old m input in
    ap (λ k. then_on (run (declared x)) (task_run p n (handler (stmt.end_scope k)))) (length-map old.slots.items slot_of ∙ sym counted))
    (put_then p n r old new many (Handler (EndScope count)) (λ x. run (declared x)) pushed
    (moved p n r mid (with_slots mid slots) new (λ x. run (declared x)) run refl
    (λ m held. (
      m,
      record { store = held.store; counts = held.counts },
      λ input. ap (λ q. run (with_frame_slots (config_of mid m input) q)) (sym (ap slots_of grown ∙ map-append slot_of old.slots.items (HeldSlot Bad ∷ []))),
    ))
    step))

-- what it begins with is this
pub initial_step : (p : ProgramTree) (n : ℕ) (r : Result Unit Stop) (old new : Machine) (i j : InitialTree) (is : ItemTrees) → i ≡ j → IsStep p n r old new (declared_do p n j is) → IsStep p n r old new (declared_do p n i is)
initial_step p n r old new i j is e step = same_step p n r old new (declared_do p n i is) (declared_do p n j is) (λ m input held. ap (λ q. declared_do p n q is (config_of old m input)) e) step

-- ---- it begins with a value

used-begins : (v : Value) (x : Configuration) → used v (λ w. goes_on_at x (newest_written (state_of x) w)) ≡ on_defined (used_value v) (λ w. goes_on_at x (newest_written (state_of x) w))
used-begins Bad x = refl
used-begins (Num w) x = refl
used-begins (At b o) x = refl

module _ (p : ProgramTree) (n : ℕ) (old : Machine) (e : ExprTree) (v : Value) (known : Knows p n old (λ c s. IsValue c e s (Some v))) (is : ItemTrees) where
  abbrev begins : Configuration → Answer Reached
  begins = tasks_do p n (of_stmt (stmt.run_items is) ∷ of_stmt stmt.begin_slot ∷ of_expr (task.evaluate e) ∷ [])

  abbrev begun : Option Value → Configuration → Answer Reached
  begun o x = then_on (on_defined o (λ w. goes_on_at x (newest_written (state_of x) w))) (task_run p n (of_stmt (stmt.run_items is)))

  begins-known : (m : Memory) (i : List ℕ) → IsHeld p old m → begins (config_of old m i) ≡ begun (used_value v) (config_of old m i)
  begins-known m i held =
      let x : Configuration = config_of old m i in
      let next : Answer Reached → Answer Reached = λ a. then_on a (task_run p n (of_stmt (stmt.run_items is))) in
      ap (λ z. next (then_on (then_on z (gives_value x)) (task_run p n (of_stmt stmt.begin_slot)))) (known m i held) ∙ ap next (used-begins v x)

  pub begun_step : (r : Result Unit Stop) (new : Machine) (slots : Vec Slot Global) (w : Value) → Some w ≡ used_value v → slots.items ≡ take (length old.slots.items - 1) old.slots.items ++ HeldSlot w ∷ [] →
      IsStep p n r (with_slots old slots) new (stmt_task_run p n (stmt.run_items is)) → IsStep p n r old new begins
  begun_step r new slots w is_used grown step =
      let all : List Slot = old.slots.items in
      let same : slots_of slots.items ≡ take (length (slots_of all) - 1) (slots_of all) ++ holds w ∷ [] =
      ap slots_of grown ∙ map-append slot_of (take (length all - 1) all) (HeldSlot w ∷ [])
      ∙ ap (λ l. l ++ holds w ∷ []) (sym (take-map slot_of (length all - 1) all) ∙ ap (λ c. take (c - 1) (slots_of all)) (sym (length-map all slot_of))) in
      moved p n r old (with_slots old slots) new begins (stmt_task_run p n (stmt.run_items is)) refl
      (λ m held. (
        m,
        record { store = held.store; counts = held.counts },
        λ i.
            let x : Configuration = config_of old m i in
            begins-known m i held ∙ ap (λ o. begun o x) (sym is_used) ∙ ap (λ q. stmt_task_run p n (stmt.run_items is) (with_frame_slots x q)) (sym same),
      ))
      step

  pub not_begun : (new : Machine) → None ≡ used_value v → IsStep p n (Err stop.Undefined) old new begins
  not_begun new none = undefined_step p n old new begins (λ m i held. begins-known m i held ∙ ap (λ o. begun o (config_of old m i)) (sym none))

-- ---- turns of a loop without a condition before the first one

pub turns_step : (p : ProgramTree) (n : ℕ) (r : Result Unit Stop) (old new : Machine) (k : ℕ) (l z b : StmtTree) → l ≡ z → IsLoop z → turns_tasks k z ≡ turn_tasks k z b →
    IsStep p n r old new (turns_do p n (turn_tasks k l b)) → IsStep p n r old new (stmt_task_run p n (stmt.run_turns k l))
turns_step p n r old new k l z b is loops tasks step =
    same_step p n r old new (stmt_task_run p n (stmt.run_turns k l)) (turns_do p n (turn_tasks k l b))
    (λ m i held.
    let x : Configuration = config_of old m i in
    ap (λ s. stmt_task_run p n (stmt.run_turns k s) x) is ∙ turns-expand p n k z x loops ∙ ap (λ ts. tasks_or_cut p n ts (normally x)) tasks ∙ ap (λ s. turns_do p n (turn_tasks k s b) x) (sym is))
    step
