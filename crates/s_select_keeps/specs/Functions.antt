-- That functions run: what a program asks so that its functions do on the machine what they mean over places, and what a call does.
use Rattle.std.specs.Prelude.{◌≡◌, ℕ, ◌+◌, ◌%◌, ◌^◌, ◌-◌, ◌<◌, ◌≤◌, ◌⊎◌, true, IsTrue, List, map, length, slice_get, slice_index, Option, Some, All}
use Rattle.val_core.specs.declared.values.Value.{Value}
use Rattle.val_core.specs.Answers.{Answer, Returned, Cut, Exited, Undefined, events}
use Rattle.val_core.specs.Events.{Event, output}
use Rattle.val_core.specs.Memory.{Memory}
use Rattle.val_core.specs.Within.{Given}
use Rattle.g_graph.specs.WellFormed.{all_of, leaves_fit}
use Rattle.rv_isa.specs.Registers.{ra, sp, s0, a0}
use Rattle.rv_machine.specs.Laws.{Reaches}
use Rattle.rv_machine.specs.Machine.{State}
use Rattle.rv_machine.specs.Memory.{has_flag, to_read, to_write}
use Rattle.rv_machine.specs.Standing.{Text}
use Rattle.rv_layout.specs.Layout.{Addresses}
use Rattle.s_linear.specs.Frame.{PlainPlaces, frame_size}
use Rattle.s_linear.specs.Linear.{Instr, LinearFunction}
use Rattle.s_linear.specs.Lines.{done, instr_names, lines}
use Rattle.val_core.specs.Numbers.{numbers_from}
use Rattle.s_linear.specs.Meaning.{Call, first_names}
use Rattle.s_linear.specs.Operands.{has_its_object, has_its_global}
use Rattle.a_place.specs.Placed.{PlacedFunction, placed_at, placed_calls}
use Rattle.s_select.specs.Conditions.{has_place, has_few_arguments}
use Rattle.s_select_keeps.specs.Codes.{CodeFits, LinesStand}
use Rattle.s_select_keeps.specs.Formats.{IsInRange, NumbersFit}
use Rattle.s_select_keeps.specs.Frames.{HasStack}
use Rattle.s_select_keeps.specs.Relation.{Bases, Extends, Shows, LivesAlike, IsOutside, ShowsMemory, IsSavedRegister, SameWord}
use Rattle.s_select_keeps.specs.Steps.{Ends, GoesOn, Exceeds}
use Rattle.s_select_keeps.specs.Streams.{StubsStand}

-- ---- programs

-- the places of the names of each function
abbrev pub Layout : Type 0
Layout = LinearFunction → PlainPlaces

-- A program in memory: its text, where its parts stand, its functions and their places, and the values that name its globals.
pub record Program : Type 0 where
  pub text : Text
  pub addresses : Addresses
  pub functions : List LinearFunction
  pub places : Layout
  pub global : ℕ → Value

abbrev pub placed_by : Program → LinearFunction → PlacedFunction
placed_by program f = placed_at (program.places f) f

abbrev pub frame_of : Layout → LinearFunction → ℕ
frame_of places f = frame_size (places f).count f.objects

-- the bytes of the frame of each function, by its number
abbrev pub frame_sizes : Program → (function : ℕ) → ℕ
frame_sizes program k = slice_index (map (frame_of program.places) program.functions) k

-- Names have places, objects and globals that are named are there, a constant is a word, and arguments are few.
abbrev pub InstrCanRun : PlainPlaces → (objects globals : ℕ) → Instr → Type 0
InstrCanRun p objects globals i =
    IsTrue (all_of (has_place p) (instr_names i)) × IsTrue (has_its_object objects i) × IsTrue (has_its_global globals i) × NumbersFit (done i)
    × IsTrue (has_few_arguments i)

-- A function over these places, of a program with so many globals: its names have places, its frame and its constants are words, and the
-- leaves of its objects do not overlap.
pub record FunctionCanRun (globals : ℕ) (p : PlainPlaces) (f : LinearFunction) : Type 0 where
  pub few : length (numbers_from 0 f.params) ≤ 8
  pub params : IsTrue (all_of (has_place p) (numbers_from 0 f.params))
  pub value : has_place p f.value ≡ true
  pub code : CodeFits (InstrCanRun p (length f.objects) globals) p f.code
  pub range : IsInRange p f.objects
  pub leaves : IsTrue (all_of (λ o. leaves_fit o.size 0 o.leaves) f.objects)

-- Its lines stand from an address on, with labels that are resolved.
pub record FunctionStands (program : Program) (at : ℕ) (p : PlainPlaces) (f : LinearFunction) : Type 0 where
  pub labels : ℕ → Option ℕ
  pub end : ℕ
  pub there : LinesStand program.text program.addresses labels p f.objects at (lines f) end
  pub low : end < 2 ^ 32
  pub can : FunctionCanRun (length program.addresses.globals) p f

-- Each function stands at its address, which is even, the stubs stand, and their buffer may be read and written.
pub record ProgramCanRun (program : Program) : Type 0 where
  pub functions : (k : ℕ) (f : LinearFunction) → slice_get program.functions k ≡ Some f
      → FunctionStands program (slice_index program.addresses.functions k) (program.places f) f
  pub entries : (k : ℕ) → (slice_index program.addresses.functions k < 2 ^ 32) × (slice_index program.addresses.functions k % 2 ≡ 0)
  pub stubs : StubsStand program.text program.addresses.data_at
  pub readable : has_flag (program.text.flags program.addresses.data_at) to_read ≡ true
  pub writable : has_flag (program.text.flags program.addresses.data_at) to_write ≡ true

-- ---- calls

-- What holds of memory while a program runs, where its stack has these bytes free: blocks are shown and lie elsewhere, those that are
-- not there have no address, globals are where the program has them, and the buffer of the stubs lies below the stack.
pub record HasBlocks (program : Program) (bases : Bases) (blocks : Memory) (base top : ℕ) : Type 0 where
  pub fresh : (n : ℕ) → length blocks ≤ n → bases n ≡ 0
  pub free : (a : ℕ) → base ≤ a → a < top → IsOutside bases blocks a
  pub globals : (k : ℕ) → k < length program.addresses.globals → (slice_index program.addresses.globals k < 2 ^ 32)
      × Shows bases (program.global k) (slice_index program.addresses.globals k)
  pub below : program.addresses.data_at < base
  pub outside : IsOutside bases blocks program.addresses.data_at

-- A function is called: the machine is at its address, with a return address and the arguments in registers, as much of the stack free
-- as s0 and the stack pointer say, and memory shown. The input is of bytes.
pub record IsCalled (program : Program) (function : ℕ) (arguments : List Value) (blocks : Memory) (input : List ℕ) (bases : Bases) (back : ℕ) (s : State) : Type 0 where
  pub pc : s.pc ≡ slice_index program.addresses.functions function
  pub return : s.regs ra ≡ back
  pub back_low : back < 2 ^ 32
  pub back_even : back % 2 ≡ 0
  pub values : (k : ℕ) → k < 8 → Shows bases (first_names arguments k) (s.regs (a0 + k))
  pub stack : HasStack program.text s
  pub readable : (a : ℕ) → s.regs s0 ≤ a → a < s.regs sp → has_flag (program.text.flags a) to_read ≡ true
  pub memory : ShowsMemory program.text.flags bases blocks s.mem
  pub has : HasBlocks program bases blocks (s.regs s0) (s.regs sp)
  pub bytes : All (λ byte. byte < 2 ^ 8) input

-- A call has come back to its return address, with its value in a0. The stack pointer, the stack's base and the saved registers are as
-- they were, and so is each byte from the stack pointer on that is in no block that lives. Memory is shown, where blocks keep their
-- addresses and new ones are dead. It has written what its events write, and the input is what the meaning leaves.
pub record ComesBack (program : Program) (blocks : Memory) (bases : Bases) (back : ℕ) (g : Given Value) (did : List Event) (s : State) (input : List ℕ) : Type 0 where
  pub state : State
  pub count : ℕ
  pub reaches : Reaches program.text.flags count s input (output did) state g.input
  pub pc : state.pc ≡ back
  pub stack : state.regs sp ≡ s.regs sp
  pub base : state.regs s0 ≡ s.regs s0
  pub kept : (r : ℕ) → IsSavedRegister r → SameWord (s.regs r) (state.regs r)
  pub bases' : Bases
  pub extends : Extends bases bases'
  pub value : Shows bases' g.value (state.regs a0)
  pub memory : ShowsMemory program.text.flags bases' g.memory state.mem
  pub fresh : (n : ℕ) → length g.memory ≤ n → bases' n ≡ 0
  pub alike : LivesAlike blocks g.memory
  pub above : (a : ℕ) → s.regs sp ≤ a → IsOutside bases blocks a → state.mem a ≡ s.mem a
  pub bytes : All (λ byte. byte < 2 ^ 8) g.input

-- What a call does where its meaning is this answer: it comes back, ends the run, or goes on for so many instructions at least where the
-- bound cuts it. An answer without meaning says nothing.
abbrev pub DoesCall : Program → (least : ℕ) → Memory → Bases → (back : ℕ) → Answer (Given Value) → State → (input : List ℕ) → Type 0
DoesCall program least blocks bases back (Returned g did) s input = ComesBack program blocks bases back g did s input
DoesCall program least blocks bases back (Cut did) s input = GoesOn program.text.flags least did s input
DoesCall program least blocks bases back (Exited did status) s input = Ends program.text.flags did status s input
DoesCall program least blocks bases back (Undefined did) s input = Unit {0}

-- Or the stack does not suffice for the frames of the calls that are met.
abbrev pub CallOutcome : Program → (least : ℕ) → Memory → Bases → (back : ℕ) → Answer (Given Value) → State → (input : List ℕ) → Type 0
CallOutcome program least blocks bases back a s input =
    Exceeds program.text.flags (frame_sizes program) (s.regs sp - s.regs s0) (events a) s input ⊎ DoesCall program least blocks bases back a s input

-- Calls of this meaning run on the machine, each for so many instructions at least where it is cut.
abbrev pub CallsRun : Program → (least : ℕ) → (ℕ → Call) → Type 0
CallsRun program least call =
    (function : ℕ) (arguments : List Value) (blocks : Memory) (input : List ℕ) (bases : Bases) (back : ℕ) (s : State)
    → IsCalled program function arguments blocks input bases back s
    → CallOutcome program least blocks bases back (call function arguments blocks input) s input

-- Functions run: at every bound, calls do on the machine what they mean over places.
abbrev pub FunctionsRun : Type 0
FunctionsRun = (program : Program) → ProgramCanRun program → (bound : ℕ) → CallsRun program bound (placed_calls (map (placed_by program) program.functions) program.global bound)
