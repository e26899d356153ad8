-- What a program does from its start: `main` runs, and the program ends with the low byte of its value.
use Rattle.std.specs.Prelude.{◌≡◌, ◌⊎◌, ℕ, ◌+◌, ◌%◌, ◌^◌, ◌<◌, ◌≤◌, true, List, [], map, slice_index, All}
use Rattle.val_core.specs.declared.values.Value.{Value}
use Rattle.val_core.specs.Answers.{Answer, Returned, Cut, Exited, Undefined, then_on, events}
use Rattle.val_core.specs.Memory.{Memory}
use Rattle.val_core.specs.Within.{Given}
use Rattle.elf_file.specs.Image.{text_at, stack_size}
use Rattle.rv_machine.specs.Machine.{State}
use Rattle.rv_machine.specs.Memory.{has_flag, to_read, to_write}
use Rattle.rv_machine.specs.Standing.{HasText, CodeStands}
use Rattle.rv_layout.specs.Sequences.{start_code}
use Rattle.s_linear.specs.Meaning.{finished}
use Rattle.a_place.specs.Placed.{placed_calls}
use Rattle.s_select_keeps.specs.Functions.{Program, ProgramCanRun, placed_by, frame_sizes, HasBlocks}
use Rattle.s_select_keeps.specs.Relation.{Bases, ShowsMemory}
use Rattle.s_select_keeps.specs.Starts.{main_returns}
use Rattle.s_select_keeps.specs.Steps.{Ends, GoesOn, Exceeds}

-- What a program does where its meaning is this answer: it ends, or goes on for so many instructions at least where the bound cuts it.
-- It never returns, and an answer without meaning says nothing.
abbrev pub DoesProgram : Program → (least : ℕ) → Answer (Given Value) → State → (input : List ℕ) → Type 0
DoesProgram program least (Returned g did) s input = ⊥
DoesProgram program least (Cut did) s input = GoesOn program.text.flags least did s input
DoesProgram program least (Exited did status) s input = Ends program.text.flags did status s input
DoesProgram program least (Undefined did) s input = Unit {0}

-- Or its stack does not suffice for the frames of the calls that are met.
abbrev pub StartOutcome : Program → (least : ℕ) → Answer (Given Value) → State → (input : List ℕ) → Type 0
StartOutcome program least a s input = Exceeds program.text.flags (frame_sizes program) stack_size (events a) s input ⊎ DoesProgram program least a s input

-- The machine is at the start code, which stands; the stack may be read and written, and memory is shown, in which no block lies in the
-- stack. The input is of bytes.
pub record HasStart (program : Program) (main stack e : ℕ) (blocks : Memory) (bases : Bases) (input : List ℕ) (s : State) : Type 0 where
  pub has_text : HasText program.text s.mem
  pub pc : s.pc ≡ text_at
  pub there : CodeStands program.text text_at (start_code stack (slice_index program.addresses.functions main)) e
  pub low : stack + stack_size < 2 ^ 32
  pub aligned : stack % 4 ≡ 0
  pub after : main_returns ≤ slice_index program.addresses.functions main
  pub readable : (a : ℕ) → stack ≤ a → a < stack + stack_size → has_flag (program.text.flags a) to_read ≡ true
  pub writable : (a : ℕ) → stack ≤ a → a < stack + stack_size → has_flag (program.text.flags a) to_write ≡ true
  pub memory : ShowsMemory program.text.flags bases blocks s.mem
  pub blocks_are : HasBlocks program bases blocks stack (stack + stack_size)
  pub bytes : All (λ byte. byte < 2 ^ 8) input

-- From the start code on, a program does at every bound what its `main` means over places.
abbrev pub MainRuns : Type 0
MainRuns =
    (program : Program) (main stack e bound : ℕ) (blocks : Memory) (bases : Bases) (input : List ℕ) (s : State) → ProgramCanRun program
    → HasStart program main stack e blocks bases input s
    → StartOutcome program bound (then_on (placed_calls (map (placed_by program) program.functions) program.global bound main [] blocks input) finished) s input
