-- How a call begins.
use Rattle.std.specs.Prelude.{◌≡◌, ◌⊎◌, ◌-◌, ℕ, [], ◌∷◌, ◌++◌, map, drop, length, reverse, None, Some, Result, Ok, Err}
use Rattle.val_core.specs.Memory.{Memory}
use Rattle.c_typed.specs.Typed.{FunctionTree, ProgramTree}
use Rattle.c_typed.specs.WellTyped.{params_of}
use Rattle.c_mean.specs.Run.{objects_of, params_in_scope}
use Rattle.c_interp_store.specs.Holding.{Holds}
use Rattle.c_interp_def.specs.ExprTasks.{newest}
use Rattle.c_interp_def.specs.StmtTasks.{end_call, handler_run}
use Rattle.c_interp_def.specs.CallLaws.{call_tasks, call_memory}
use Rattle.c_interp_def.specs.declared.task.Flow.TheVariants.{Normal}
use Rattle.c_interp_def.specs.declared.task.Handler.TheVariants.{EndCall}
use Rattle.c_interp_def.specs.declared.task.Task.TheVariants.{Handler}
use Rattle.c_interp_answer.specs.TaskViews.{flow_of}
use Rattle.c_interp.specs.declared.stop.Stop.{Stop}
use Rattle.c_interp.specs.declared.stop.Stop.TheVariants as stop
use Rattle.c_interp.specs.declared.frame.Active.{Active}
use Rattle.c_interp.specs.declared.machine.Machine.{Machine}
use Rattle.c_interp.specs.Machines.{frame_of, opened_in, opened_by, config_of, IsHeld}
use Rattle.c_interp.specs.Steps.{IsStep, tasks_do}

-- the frame of a call that begins where the machine held this memory
pub record BeginsCall (p : ProgramTree) (f count : ℕ) (fn : FunctionTree) (old new : Machine) (active : Active) (m : Memory) : Type 0 where
  pub memory : Memory
  pub stored : call_memory p (config_of old m []) count fn ≡ Some memory
  pub held : Holds new.store (opened_by active ∷ opened_in old.frame ∷ reverse (map opened_by old.callers.items)) memory
  pub frame : frame_of active
      ≡ record { function = f; first = length m; depth = old.frame.depth - 1; slots = params_in_scope 0 (params_of fn) (newest count (reverse old.operands.items)) }
  pub counted : active.frame.objects.count ≡ length (objects_of p.structs fn.variables)
  pub operands : reverse new.operands.items ≡ drop count (reverse old.operands.items)
  pub tasks : new.tasks ≡ old.tasks
  pub caller : new.frame ≡ old.frame
  pub slots : new.slots ≡ old.slots
  pub callers : new.callers ≡ old.callers
  pub flow : new.flow ≡ old.flow

-- The arguments can be stored, or the call is undefined. Nothing is said where memory is out.
abbrev pub IsFrame : ProgramTree → (function count : ℕ) → FunctionTree → (old new : Machine) → Result Active Stop → Type 0
IsFrame p f count fn old new (Ok active) = (m : Memory) → IsHeld p old m → BeginsCall p f count fn old new active m
IsFrame p f count fn old new (Err stop.Undefined) = (m : Memory) → IsHeld p old m → call_memory p (config_of old m []) count fn ≡ None
IsFrame p f count fn old new (Err stop.NoMemory) = Unit {0}
IsFrame p f count fn old new (Err s) = (m : Memory) → IsHeld p old m → ⊥

-- the newest call, as it waits
abbrev pub waiting : Machine → Active
waiting m = record { frame = m.frame; slots = m.slots }

-- the machine has the frame of the call, and no jump is on its way
pub record HasEntered (active : Active) (old new : Machine) : Type 0 where
  pub tasks : new.tasks ≡ old.tasks
  pub frame_is : new.frame ≡ active.frame
  pub slots_are : new.slots ≡ active.slots
  pub callers : new.callers.items ≡ old.callers.items ++ waiting old ∷ []
  pub operands : new.operands ≡ old.operands
  pub flow : new.flow ≡ Normal
  pub store : new.store ≡ old.store

abbrev pub IsEntered : Active → (old new : Machine) → Result Unit Stop → Type 0
IsEntered active old new (Ok u) = HasEntered active old new
IsEntered active old new (Err stop.NoMemory) = Unit {0}
IsEntered active old new (Err s) = ⊥

-- The call was entered, and there its tasks are done. Nothing is said where memory is out.
abbrev pub IsBegunCall : ProgramTree → (bound : ℕ) → Active → FunctionTree → (old new : Machine) → Result Unit Stop → Type 0
IsBegunCall p n active fn old new r = (r ≡ Err stop.NoMemory) ⊎ ((mid : Machine) × HasEntered active old mid × IsStep p n r mid new (tasks_do p n (call_tasks fn)))

-- the machine with the tasks of another one
abbrev pub with_tasks_of : Machine → Machine → Machine
with_tasks_of m few = record { tasks = few.tasks; operands = m.operands; frame = m.frame; slots = m.slots; callers = m.callers; flow = m.flow; store = m.store; status = m.status; spare = m.spare }

abbrev pub IsUnchanged : (old new : Machine) → Result Unit Stop → Type 0
IsUnchanged old new (Ok u) = new ≡ old
IsUnchanged old new (Err s) = ⊥

-- The newest task was the end of a call, which is done; or nothing is.
abbrev pub IsEnded : ProgramTree → (bound : ℕ) → (old new : Machine) → Result Unit Stop → Type 0
IsEnded p n old new r =
    IsUnchanged old new r
    ⊎ ((few : Machine) × (old.tasks.items ≡ few.tasks.items ++ Handler EndCall ∷ []) × IsStep p n r (with_tasks_of old few) new (handler_run p n end_call (flow_of old.flow)))
