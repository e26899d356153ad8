-- A step that may read or write a byte, and remembers whether the end of the input was met, so that the input ends once.
use Rattle.std.specs.Prelude.{◌≡◌, ◌%◌, ℕ, Bool, true, false, List, [], ◌∷◌, ◌++◌, ◌⊎◌, length, Option, None, Some, Result, Ok, Err}
use Rattle.val_core.specs.declared.values.Value.{Value}
use Rattle.val_core.specs.declared.values.Value.TheVariants.{Num}
use Rattle.val_core.specs.Memory.{Memory}
use Rattle.val_core.specs.Events.{Event, output}
use Rattle.val_core.specs.Answers.{Answer, before, then_on}
use Rattle.cc_io.specs.Sink.{append}
use Rattle.cc_io.specs.Source.{prepend, IsAtEnd}
use Rattle.c_typed.specs.Typed.{ProgramTree}
use Rattle.c_mean.specs.Run.{taken}
use Rattle.c_interp_def.specs.declared.task.ExprTask.{ExprTask}
use Rattle.c_interp_def.specs.declared.task.ExprTask.TheVariants.{ReadByte, WriteByte, Unary}
use Rattle.c_interp_def.specs.Configurations.{Configuration, Reached}
use Rattle.c_interp_def.specs.StmtTasks.{Task, tasks_run}
use Rattle.c_interp_def.specs.CallLaws.{IsHeardAs}
use Rattle.c_interp_answer.specs.TaskViews.{tasks_of}
use Rattle.c_interp.specs.declared.stop.Stop.{Stop}
use Rattle.c_interp.specs.declared.stop.Stop.TheVariants as stop
use Rattle.c_interp.specs.declared.machine.Machine.{Machine}
use Rattle.c_interp.specs.Machines.{config_of, reached_of, IsHeld}
use Rattle.c_interp.specs.Steps.{IsStopped, number}

-- what the output holds, what the input has left, and whether its end was met
pub record Port : Type 0 where
  pub held : Option (List ℕ)
  pub left : Option (List ℕ)
  pub closed : Bool

-- the next byte of an input, or its end
abbrev pub IsReceived : Option ℕ → (before after : Port) → Type 0
IsReceived (Some byte) before after =
    (before.left ≡ prepend (byte ∷ []) after.left) × (before.closed ≡ false) × (after.closed ≡ false)
IsReceived None before after = (after.left ≡ before.left) × IsAtEnd after.left × (after.closed ≡ true)

-- As `IsDone`, where these events happened and these bytes were taken.
pub record IsDoneAt (p : ProgramTree) (n : ℕ) (old new : Machine) (a : List ℕ → Answer Reached) (first last : Port) : Type 0 where
  pub put : List Task
  pub tasks : tasks_of new.tasks.items ≡ tasks_of old.tasks.items ++ put
  pub memory : Memory
  pub is_held : IsHeld p new memory
  pub did : List Event
  pub bytes : List ℕ
  pub count : taken did ≡ length bytes
  pub held : last.held ≡ append first.held (output did)
  pub left : first.left ≡ prepend bytes last.left
  pub at_end : last.closed ≡ true → IsAtEnd last.left
  pub stays : first.closed ≡ true → (last.closed ≡ true) × (bytes ≡ [])
  pub same : (input : List ℕ) → (last.closed ≡ true → input ≡ []) → (rest : Reached → Answer Reached) →
      IsHeardAs (then_on (a (bytes ++ input)) rest) (before did (then_on (tasks_run p n put (reached_of new memory input)) rest))

-- as `IsStopped`, or a call of the input or of the output failed
abbrev pub IsStoppedAt : (reads writes : Type 0) → (status : ℕ) → Stop → Answer Reached → Type 0
IsStoppedAt reads writes status stop.ReadFault a = reads
IsStoppedAt reads writes status stop.WriteFault a = writes
IsStoppedAt reads writes status s a = IsStopped status s a

-- nothing was written or taken
pub record AreLeft (first last : Port) : Type 0 where
  pub held : last.held ≡ first.held
  pub left : last.left ≡ first.left

abbrev pub IsStepAt : ProgramTree → (bound : ℕ) → Result Unit Stop → (old new : Machine) → (Configuration → Answer Reached) → (first last : Port) → (reads writes : Type 0) → Type 0
IsStepAt p n (Ok u) old new run first last reads writes =
    (m : Memory) → IsHeld p old m → IsDoneAt p n old new (λ i. run (config_of old m i)) first last
IsStepAt p n (Err s) old new run first last reads writes =
    AreLeft first last × ((m : Memory) → IsHeld p old m → (i : List ℕ) → IsStoppedAt reads writes new.status s (run (config_of old m i)))

-- The newest operand is a number, in whose place its last byte stands. Nothing is said where memory is out.
abbrev pub IsByte : Result ℕ Stop → (old new : List Value) → Type 0
IsByte (Ok byte) old new = (w : ℕ) × (few : List Value) × (byte ≡ w % 256) × (old ≡ few ++ Num w ∷ []) × (new ≡ few ++ Num byte ∷ [])
IsByte (Err stop.Undefined) old new = (old ≡ []) ⊎ ((few : List Value) × (v : Value) × (old ≡ few ++ v ∷ []) × (number v ≡ None))
IsByte (Err stop.NoMemory) old new = Unit {0}
IsByte (Err s) old new = ⊥

-- the task neither reads nor writes
abbrev pub IsQuiet : ExprTask → Type 0
IsQuiet ReadByte = ⊥
IsQuiet WriteByte = ⊥
IsQuiet (Unary o t u) = ⊥
IsQuiet t = Unit {0}
