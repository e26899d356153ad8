-- That the machine keeps the behaviour of a program from its start.
use Rattle.std.specs.Prelude.{ℕ, List, [], map}
use Rattle.val_core.specs.declared.values.Value.{Value}
use Rattle.val_core.specs.Answers.{Answer, IsUndefined, then_on, events}
use Rattle.val_core.specs.Events.{deepest}
use Rattle.val_core.specs.Memory.{Memory}
use Rattle.val_core.specs.Within.{Given}
use Rattle.rv_machine.specs.Machine.{State}
use Rattle.rv_machine.specs.Run.{run, running}
use Rattle.s_linear.specs.Meaning.{finished}
use Rattle.a_place.specs.Placed.{placed_calls}
use Rattle.rv_machine.specs.Behaviour.{IsKept}
use Rattle.s_select_keeps.specs.Functions.{Program, ProgramCanRun, placed_by, frame_sizes}
use Rattle.s_select_keeps.specs.Mains.{HasStart}
use Rattle.s_select_keeps.specs.Relation.{Bases}

-- what a program means over places within a bound: its `main` runs, and the program ends with the low byte of its value
abbrev pub program_at : Program → (main : ℕ) → Memory → (input : List ℕ) → (bound : ℕ) → Answer (Given Value)
program_at program main blocks input n = then_on (placed_calls (map (placed_by program) program.functions) program.global n main [] blocks input) finished

-- Where no bounded run of it is without meaning, the machine keeps its behaviour from the start code on.
abbrev pub ProgramIsKept : Type 0
ProgramIsKept =
    (program : Program) (main stack e : ℕ) (blocks : Memory) (bases : Bases) (input : List ℕ) (s : State) → ProgramCanRun program
    → HasStart program main stack e blocks bases input s
    → ((n : ℕ) → IsUndefined (program_at program main blocks input n) → ⊥)
    → IsKept (Given Value) (program_at program main blocks input) (λ n. deepest (frame_sizes program) (events (program_at program main blocks input n)))
    (λ n. run program.text.flags n (running s) input)
