-- The machine as a program begins, and how a run ends.
use Rattle.std.specs.Prelude.{◌≡◌, ℕ, List}
use Rattle.c_typed.specs.Typed.{ProgramTree}
use Rattle.c_mean.specs.Run.{first_memory}
use Rattle.c_interp_def.specs.CallLaws.{at_start, program_tasks}
use Rattle.c_interp_def.specs.Laws.{normally}
use Rattle.c_interp_answer.specs.TaskViews.{tasks_of}
use Rattle.c_interp.specs.declared.stop.Ending.{Ending}
use Rattle.c_interp.specs.declared.stop.Ending.TheVariants as ending
use Rattle.c_interp.specs.declared.stop.Stop.{Stop}
use Rattle.c_interp.specs.declared.stop.Stop.TheVariants as stop
use Rattle.c_interp.specs.declared.machine.Machine.{Machine}
use Rattle.c_interp.specs.Machines.{reached_of, IsHeld}

pub record HasBegun (p : ProgramTree) (n : ℕ) (m : Machine) : Type 0 where
  pub tasks : tasks_of m.tasks.items ≡ program_tasks p
  pub at : (input : List ℕ) → reached_of m (first_memory p) input ≡ normally (at_start p n input)
  pub held : IsHeld p m (first_memory p)

-- why a step did not go on where the run ends so, with this status where it exits
abbrev pub HasStopped : Stop → (status : ℕ) → Ending → Type 0
HasStopped s status (ending.Exit k) = (s ≡ stop.Exit) × (k ≡ status)
HasStopped s status ending.Cut = s ≡ stop.Cut
HasStopped s status ending.Undefined = s ≡ stop.Undefined
HasStopped s status ending.ReadFault = s ≡ stop.ReadFault
HasStopped s status ending.WriteFault = s ≡ stop.WriteFault
