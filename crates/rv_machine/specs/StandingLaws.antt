-- Laws of code where it stands.
use Rattle.std.specs.Prelude.{◌≡◌, ℕ, suc, ◌+◌, ◌*◌, ◌%◌, ◌<◌, true, false, List, ◌++◌, length, slice_get, slice_index_or, Some}
use Rattle.std.specs.List.{flat_map}
use Rattle.elf_file.specs.Header.{word}
use Rattle.elf_file.specs.Loading.{LoadedSegment}
use Rattle.elf_file.specs.Segments.{AreSound}
use Rattle.rv_isa.specs.Words.{word_of}
use Rattle.rv_isa.specs.declared.instruction.Instr.{Instr}
use Rattle.rv_isa.specs.declared.instruction.Instr.TheVariants.{Ebreak}
use Rattle.rv_machine.specs.Laws.{Reaches}
use Rattle.rv_machine.specs.Machine.{State, Ending, act, next, stop, next_effect}
use Rattle.rv_machine.specs.Memory.{memory_of, flags_of, has_flag, to_write, to_execute}
use Rattle.rv_machine.specs.Run.{running, ended, run}
use Rattle.rv_machine.specs.Standing.{Text, HasText, StandsAt, CodeStands, AllFit}

-- The instruction that stands at pc is done.
abbrev pub StandingIsDone : Type 0
StandingIsDone = (text : Text) (s : State) (i : Instr) → HasText text s.mem → StandsAt text s.pc i
    → next_effect text.flags s ≡ act text.flags i s

-- A run leaves the text.
abbrev pub TextStays : Type 0
TextStays = (text : Text) (n : ℕ) (s t : State) (input written rest : List ℕ) → Reaches text.flags n s input written t rest
    → HasText text s.mem → HasText text t.mem

-- Where a run has come to, it does the instruction that stands there: it goes on by one, or ends.
abbrev pub StandingReaches : Type 0
StandingReaches = (text : Text) (n : ℕ) (s t u : State) (i : Instr) (input written rest : List ℕ) → HasText text s.mem
    → Reaches text.flags n s input written t rest → StandsAt text t.pc i → act text.flags i t ≡ next u
    → Reaches text.flags (n + 1) s input written u rest

abbrev pub StandingEnds : Type 0
StandingEnds = (text : Text) (n k : ℕ) (s t : State) (i : Instr) (e : Ending) (input written rest : List ℕ) → HasText text s.mem
    → Reaches text.flags n s input written t rest → StandsAt text t.pc i → act text.flags i t ≡ stop e
    → run text.flags (n + suc k) (running s) input ≡ record { hart = ended e; output = written; rest = rest }

-- Of two codes one after the other, the second begins where the first ends.
abbrev pub CodeIsCut : Type 0
CodeIsCut = (text : Text) (a b : ℕ) (first second : List Instr) → CodeStands text a (first ++ second) b
    → (m : ℕ) × CodeStands text a first m × CodeStands text m second b

-- Of code that stands, each instruction stands at its word.
abbrev pub EachStands : Type 0
EachStands = (text : Text) (a b k : ℕ) (code : List Instr) → CodeStands text a code b → k < length code
    → StandsAt text (a + 4 * k) (slice_index_or code k Ebreak)

-- The code of a segment stands in memory.
abbrev pub SegmentCodeStands : Type 0
SegmentCodeStands = (segments : List LoadedSegment) (k : ℕ) (s : LoadedSegment) (code : List Instr) → AreSound segments → slice_get segments k ≡ Some s
    → s.bytes ≡ flat_map (λ i. word (word_of i)) code → s.at % 4 ≡ 0 → has_flag s.flags to_execute ≡ true → has_flag s.flags to_write ≡ false → AllFit code
    → CodeStands (record { flags = flags_of segments; bytes = memory_of segments }) s.at code (s.at + 4 * length code)
