-- A run of a number of instructions.
use Rattle.std.specs.Prelude.{ℕ, zero, suc, List, [], ◌∷◌, ◌++◌, Option, Some, None, Result, Ok, Err}
use Rattle.elf_file.specs.Loading.{Executable, loaded}
use Rattle.elf_file.specs.declared.fault.ElfFault.{ElfFault}
use Rattle.rv_machine.specs.Machine.{State, Ending, Effect, next, stop, put, get, next_effect}
use Rattle.rv_machine.specs.Memory.{memory_of, flags_of}

-- a hart that runs from a state on, or whose run has ended
pub data Hart : Type 0 where
  running : (state : State) → Hart
  ended : (ending : Ending) → Hart

-- the result of a run: the hart, the bytes written, and the input that is left
pub record RunResult : Type 0 where
  pub hart : Hart
  pub output : List ℕ
  pub rest : List ℕ

-- nothing is done
abbrev pub standing : Hart → List ℕ → RunResult
standing h input = record { hart = h; output = []; rest = input }

-- the result of a run before which these bytes were written
abbrev pub after_output : List ℕ → RunResult → RunResult
after_output written o = record { hart = o.hart; output = written ++ o.output; rest = o.rest }

-- the rest of a run from a state and its input on
abbrev pub Onward : Type 0
Onward = State → List ℕ → RunResult

abbrev pub receive : (Option ℕ → State) → Onward → List ℕ → RunResult
receive received onward [] = onward (received None) []
receive received onward (byte ∷ input) = onward (received (Some byte)) input

-- an instruction, and then the rest of the run
abbrev pub follow : Effect → Onward → List ℕ → RunResult
follow (next s) onward input = onward s input
follow (stop e) onward input = standing (ended e) input
follow (put byte s) onward input = after_output (byte ∷ []) (onward s input)
follow (get received) onward input = receive received onward input

-- this many instructions, of which the one that ends the run is the last
unfoldable pub run_state : (flags : ℕ → ℕ) → ℕ → Onward
run_state flags zero s input = standing (running s) input
run_state flags (suc n) s input = follow (next_effect flags s) (run_state flags n) input

-- an ended run stays as it is
unfoldable pub run : (flags : ℕ → ℕ) → ℕ → Hart → List ℕ → RunResult
run flags n (running s) input = run_state flags n s input
run flags n (ended e) input = standing (ended e) input

-- an executable in memory, with all registers 0 and pc at its entry
abbrev pub start : Executable → State
start e = record { pc = e.entry; regs = λ _. 0; mem = memory_of e.segments }

-- what this many instructions of an executable come to
unfoldable pub executed : ℕ → Executable → List ℕ → RunResult
executed n e input = run (flags_of e.segments) n (running (start e)) input

abbrev pub executed_if_loaded : ℕ → Result Executable ElfFault → List ℕ → Result RunResult ElfFault
executed_if_loaded n (Ok e) input = Ok (executed n e input)
executed_if_loaded n (Err fault) input = Err fault

-- what this many instructions of an executable file come to, or why it does not load
abbrev pub image_at : ℕ → List ℕ → List ℕ → Result RunResult ElfFault
image_at n bytes input = executed_if_loaded n (loaded bytes) input
