-- What a step of the machine does, by what the definition says of the task.
use Rattle.std.specs.Prelude.{◌≡◌, ℕ, List, [], ◌∷◌, ◌++◌, length, if◌then◌else◌, not, Bool, true, false, Option, None, Some, unwrap_or, option_and_then, slice_set, Result, Ok, Err}
use Rattle.val_core.specs.declared.values.Value.{Value}
use Rattle.val_core.specs.declared.values.Value.TheVariants.{Num, Bad}
use Rattle.val_core.specs.Words.{one_if}
use Rattle.val_core.specs.Memory.{Memory, load, store}
use Rattle.val_core.specs.Answers.{Answer, Cut, Exited, Undefined, then_on, on_defined}
use Rattle.c_type.specs.Trees.{TypeTree}
use Rattle.c_typed.specs.declared.operator.IncDec.{IncDec}
use Rattle.c_typed.specs.Typed.{ExprTree, ExprTrees, InitialTree, ItemTrees, StmtTree, loop, do_while, VariableTree, ProgramTree}
use Rattle.c_typed.specs.WellTyped.{type_of}
use Rattle.c_typed.specs.Objects.{object_number, access_width}
use Rattle.c_mean.specs.State.{Slot, holds, object, converted, extended}
use Rattle.c_interp_store.specs.declared.store.Store.{Store}
use Rattle.c_interp_store.specs.Holding.{Opened, Holds}
use Rattle.c_interp_store.specs.Operators.{used_value}
use Rattle.c_mean.specs.Expressions.{branched}
use Rattle.c_mean.specs.Statements.{Flow, normal, returned}
use Rattle.c_interp_def.specs.Configurations.{Configuration, Reached, reaches, with_slots, with_operands, on_operand}
use Rattle.c_interp_def.specs.ExprTasks.{evaluate, pass_each, use_it, test}
use Rattle.c_interp_def.specs.StmtTasks.{Task, of_expr, of_stmt, handler, run_items, end_scope, end_switch, value_tasks, task_run, tasks_run}
use Rattle.c_interp_def.specs.declared.task.Flow.TheVariants.{Normal}
use Rattle.c_interp_def.specs.Laws.{normally, tasks_or_cut}
use Rattle.c_interp_def.specs.CallLaws.{IsHeardAs}
use Rattle.c_interp_answer.specs.TaskViews.{tasks_of}
use Rattle.c_interp.specs.declared.stop.Stop.{Stop}
use Rattle.c_interp.specs.declared.stop.Stop.TheVariants as stop
use Rattle.c_interp.specs.declared.machine.Machine.{Machine}
use Rattle.c_interp.specs.Machines.{config_of, reached_of, IsHeld}

-- whatever follows, this is heard
abbrev pub IsEnd : Answer Reached → Answer Reached → Type 0
IsEnd a b = (rest : Reached → Answer Reached) → IsHeardAs (then_on a rest) b

-- The run ends so, with this status where it exits. Nothing is said where memory is out.
abbrev pub IsStopped : (status : ℕ) → Stop → Answer Reached → Type 0
IsStopped status stop.Exit a = IsEnd a (Exited [] status)
IsStopped status stop.Cut a = IsEnd a (Cut [])
IsStopped status stop.Undefined a = IsEnd a (Undefined [])
IsStopped status stop.ReadFault a = ⊥
IsStopped status stop.WriteFault a = ⊥
IsStopped status stop.NoMemory a = Unit {0}

-- The machine holds a memory, and what a task comes to on an input is heard as what the tasks come to that were put.
pub record IsDone (p : ProgramTree) (n : ℕ) (old new : Machine) (a : List ℕ → Answer Reached) : Type 0 where
  pub put : List Task
  pub tasks : tasks_of new.tasks.items ≡ tasks_of old.tasks.items ++ put
  pub memory : Memory
  pub held : IsHeld p new memory
  pub same : (input : List ℕ) (rest : Reached → Answer Reached) →
      IsHeardAs (then_on (a input) rest) (then_on (tasks_run p n put (reached_of new memory input)) rest)

-- A step that neither reads nor writes, of a task that does this.
abbrev pub IsStep : ProgramTree → (bound : ℕ) → Result Unit Stop → (old new : Machine) → (Configuration → Answer Reached) → Type 0
IsStep p n (Ok u) old new run = (m : Memory) → IsHeld p old m → IsDone p n old new (λ i. run (config_of old m i))
IsStep p n (Err s) old new run = (m : Memory) → IsHeld p old m → (i : List ℕ) → IsStopped new.status s (run (config_of old m i))

-- a task, where this jump or none is on its way
abbrev pub task_from : ProgramTree → (bound : ℕ) → Task → Flow → Configuration → Answer Reached
task_from p n t f x = task_run p n t (record { flow = f; at = x })

-- ---- parts of tasks

abbrev pub nothing_run : Configuration → Answer Reached
nothing_run x = reaches normal x

-- all these tasks, of which the last is done first
abbrev pub tasks_do : ProgramTree → (bound : ℕ) → List Task → Configuration → Answer Reached
tasks_do p n ts x = tasks_run p n ts (normally x)

-- an expression, of which the truth becomes an operand
abbrev pub tested_run : ProgramTree → (bound : ℕ) → ExprTree → Configuration → Answer Reached
tested_run p n b = tasks_do p n (of_expr (test (type_of b)) ∷ of_expr (evaluate b) ∷ [])

-- an argument, which has to be a value and becomes an operand
abbrev pub passed_run : ProgramTree → (bound : ℕ) → ExprTree → Configuration → Answer Reached
passed_run p n e = tasks_do p n (of_expr use_it ∷ of_expr (evaluate e) ∷ [])

-- and then those after it are passed
abbrev pub passed_then : ProgramTree → (bound : ℕ) → ExprTree → ExprTrees → Configuration → Answer Reached
passed_then p n e es x = then_on (passed_run p n e x) (task_run p n (of_expr (pass_each es)))

-- a value becomes an operand, where there is one
abbrev pub give_run : Option Value → Configuration → Answer Reached
give_run v x = on_defined v (λ w. reaches normal (with_operands x (w ∷ x.operands)))

-- a return with a value, where there is one
abbrev pub return_run : Value → Configuration → Answer Reached
return_run v x = on_defined (used_value v) (λ w. reaches (returned (Some w)) x)

-- one of two tasks, where it is known which
abbrev pub choose_run : Option Bool → (chosen otherwise : Configuration → Answer Reached) → Configuration → Answer Reached
choose_run d a b x = on_defined d (λ e. if e then a x else b x)

abbrev pub with_memory : Configuration → Memory → Configuration
with_memory x m = record { frame = x.frame; callers = x.callers; operands = x.operands; memory = m; input = x.input }

abbrev pub with_frame_slots : Configuration → List Slot → Configuration
with_frame_slots x slots = record { frame = with_slots x.frame slots; callers = x.callers; operands = x.operands; memory = x.memory; input = x.input }

-- a value is stored at an address
abbrev pub store_run : TypeTree → (address : Value) → Option Value → Configuration → Answer Reached
store_run t a v x = on_defined v (λ w. on_defined (store (access_width t) a w x.memory) (λ m. reaches normal (with_memory x m)))

-- and the value, or another one, becomes an operand
abbrev pub write_run : TypeTree → (address : Value) → Option Value → (given : Option Value) → Configuration → Answer Reached
write_run t a v given x =
    on_defined v (λ w.
    on_defined (store (access_width t) a w x.memory) (λ m. reaches normal (with_operands (with_memory x m) (unwrap_or given w ∷ x.operands))))

-- a variable takes a value, which becomes an operand, or another one does
abbrev pub set_run : (slot : ℕ) → Option Value → (given : Option Value) → Configuration → Answer Reached
set_run k v given x =
    on_defined v (λ w. reaches normal (with_operands (with_frame_slots x (slice_set x.frame.slots k (holds w))) (unwrap_or given w ∷ x.operands)))

-- A value variable comes into scope and begins so, and then these items are run.
abbrev pub declared : Configuration → Configuration
declared x = with_frame_slots x (x.frame.slots ++ holds Bad ∷ [])

abbrev pub declared_do : ProgramTree → (bound : ℕ) → InitialTree → ItemTrees → Configuration → Answer Reached
declared_do p n i is x =
    then_on (tasks_do p n (of_stmt (run_items is) ∷ value_tasks i) (declared x)) (task_run p n (handler (end_scope (length x.frame.slots))))

-- this of a loop, then its end, and then these items
abbrev pub loop_then : ProgramTree → (bound : ℕ) → ItemTrees → (Configuration → Answer Reached) → Configuration → Answer Reached
loop_then p n is run x = then_on (then_on (run x) (task_run p n (handler end_switch))) (task_run p n (of_stmt (run_items is)))

-- The machine did this and put no task, or it stays as it was.
pub record IsMoved (p : ProgramTree) (n : ℕ) (old new : Machine) (run : Configuration → Answer Reached) : Type 0 where
  pub tasks : new.tasks ≡ old.tasks
  pub flow : new.flow ≡ Normal
  pub to : (m : Memory) → IsHeld p old m → (k : Memory) × IsHeld p new k × ((i : List ℕ) → run (config_of old m i) ≡ reaches normal (config_of new k i))

abbrev pub IsPerformed : ProgramTree → (bound : ℕ) → Result Bool Stop → (old new : Machine) → (Configuration → Answer Reached) → Type 0
IsPerformed p n (Ok true) old new run = IsMoved p n old new run
IsPerformed p n (Ok false) old new run = new ≡ old
IsPerformed p n (Err s) old new run = IsStep p n (Err s) old new run

-- ---- values

-- the number that a value is
abbrev pub number : Value → Option ℕ
number (Num w) = Some w
number v = None

abbrev pub bit_of : Bool → Value
bit_of b = Num (one_if b)

-- what is read at an address
abbrev pub loaded_value : TypeTree → (address : Value) → Memory → Option Value
loaded_value t a m = option_and_then (λ v. used_value (extended t v)) (load (access_width t) a m)

-- what an assignment writes of this value
abbrev pub converted_value : TypeTree → Option Value → Option Value
converted_value t v = option_and_then (λ w. used_value (converted t w)) v

-- what `++` or `--` gives, where it is not what it writes
abbrev pub old_of : IncDec → Value → Option Value
old_of i v = if i.gives_old then Some v else None

-- the value of a variable, where the slot has one
abbrev pub slot_read : Option Slot → Option Value
slot_read (Some (holds v)) = used_value v
slot_read s = None

-- the address of an object in scope
abbrev pub slot_address : (object : ℕ → Value) → Option Slot → Option Value
slot_address at (Some (object k)) = Some (at k)
slot_address at s = None

-- ---- loops

abbrev pub is_loop : StmtTree → Bool
is_loop (loop d step a) = true
is_loop (do_while a e) = true
is_loop a = false

-- a turn, where one is left
abbrev pub turns_do : ProgramTree → (bound : ℕ) → Option (List Task) → Configuration → Answer Reached
turns_do p n ts x = tasks_or_cut p n ts (normally x)

-- where the newest operand is true this is done
abbrev pub asked_do : TypeTree → (Configuration → Answer Reached) → Configuration → Answer Reached
asked_do t next x = on_operand x (λ v y. branched t v (next y) (reaches normal y))

-- ---- what begins

-- the slot of a variable as it comes into scope
abbrev pub slot_begun : List VariableTree → (variable : ℕ) → Option VariableTree → Option Slot
slot_begun vs k None = None
slot_begun vs k (Some v) = Some (if v.is_object then object (object_number vs k) else holds Bad)

-- the variable is there and no object
abbrev pub is_value : Option VariableTree → Bool
is_value None = false
is_value (Some v) = not v.is_object

abbrev pub IsSomeHeld : List Opened → Option Memory → Store → Type 0
IsSomeHeld calls None s = ⊥
IsSomeHeld calls (Some m) s = Holds s calls m

-- The memory is as told, where that is defined. Nothing is said where memory is out.
abbrev pub IsStored : {X : Type 0} → List Opened → Option Memory → Store → Result X Stop → Type 0
IsStored calls m s (Ok x) = IsSomeHeld calls m s
IsStored calls m s (Err stop.Undefined) = m ≡ None
IsStored calls m s (Err stop.NoMemory) = Unit {0}
IsStored calls m s (Err r) = ⊥
