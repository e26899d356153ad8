-- What the templates that take and give back the frame of a function do.
use Rattle.std.specs.Prelude.{◌≡◌, ◌≢◌, ◌⊎◌, ℕ, ◌+◌, ◌-◌, ◌*◌, ◌%◌, ◌^◌, ◌<◌, ◌≤◌, true, List}
use Rattle.rv_isa.specs.Registers.{ra, sp, t0, t1, s0}
use Rattle.rv_machine.specs.Machine.{State, stack}
use Rattle.rv_machine.specs.Memory.{load_bytes, has_flag, to_read, to_write}
use Rattle.rv_machine.specs.Run.{run, running, ended, standing}
use Rattle.rv_machine.specs.Standing.{Text, HasText, CodeStands}
use Rattle.s_linear.specs.Frame.{registers}
use Rattle.s_select.specs.Operands.{t2, place_register}
use Rattle.s_select.specs.Templates.{take_frame, give_frame}
use Rattle.s_select_keeps.specs.Steps.{Steps}

-- The stack from its base in s0 on, up to the stack pointer.
pub record HasStack (text : Text) (s : State) : Type 0 where
  pub has_text : HasText text s.mem
  pub aligned : s.regs sp % 4 ≡ 0
  pub base : s.regs s0 ≤ s.regs sp
  pub low : s.regs sp < 2 ^ 32
  pub writable : (a : ℕ) → s.regs s0 ≤ a → a < s.regs sp → has_flag (text.flags a) to_write ≡ true

-- a frame of this size holds the return address and so many registers
pub record IsFrameSize (size saved : ℕ) : Type 0 where
  pub saved_low : saved ≤ registers
  pub holds : 4 + 4 * saved ≤ size
  pub low : size < 2 ^ 32
  pub aligned : size % 4 ≡ 0

-- Up to address e the frame is taken: the stack pointer is lower by its size, and the words below the caller's stack pointer have
-- the return address and the caller's place registers. No other memory changes, and no register but temporaries.
pub record Taken (text : Text) (s : State) (size saved e : ℕ) : Type 0 where
  pub state : State
  pub steps : Steps text.flags s state
  pub pc : state.pc ≡ e
  pub sp_is : state.regs sp ≡ s.regs sp - size
  pub others : (r : ℕ) → r ≢ sp → r ≢ t0 → r ≢ t1 → r ≢ t2 → state.regs r ≡ s.regs r
  pub return : load_bytes state.mem (s.regs sp - 4) 4 ≡ s.regs ra % 2 ^ 32
  pub saves : (k : ℕ) → k < saved → load_bytes state.mem (s.regs sp - (8 + 4 * k)) 4 ≡ s.regs (place_register k) % 2 ^ 32
  pub memory : (a : ℕ) → (a < s.regs sp - (4 + 4 * saved)) ⊎ (s.regs sp ≤ a) → state.mem a ≡ s.mem a
  pub has_text : HasText text state.mem

-- The frame is taken where the stack has that many bytes left; else the run ends with the status of the stack.
abbrev pub FrameIsTaken : Type 0
FrameIsTaken =
    (text : Text) (s : State) (size saved e : ℕ) → HasStack text s → IsFrameSize size saved → CodeStands text s.pc (take_frame size saved) e → e < 2 ^ 32
    → size ≤ s.regs sp - s.regs s0 → Taken text s size saved e

-- to the end of the run, with the status of the stack
pub record EndsInStack (flags : ℕ → ℕ) (s : State) : Type 0 where
  pub count : ℕ
  pub runs : (input : List ℕ) → run flags count (running s) input ≡ standing (ended stack) input

abbrev pub StackIsExceeded : Type 0
StackIsExceeded =
    (text : Text) (s : State) (size saved e : ℕ) → HasStack text s → IsFrameSize size saved → CodeStands text s.pc (take_frame size saved) e → e < 2 ^ 32
    → s.regs sp - s.regs s0 < size → EndsInStack text.flags s

-- The frame is given back: the place registers are what its words hold, and the machine is at the return address.
pub record GivenBack (text : Text) (s : State) (size saved back : ℕ) : Type 0 where
  pub state : State
  pub steps : Steps text.flags s state
  pub pc : state.pc ≡ back
  pub sp_is : state.regs sp ≡ s.regs sp + size
  pub restores : (k : ℕ) → k < saved → state.regs (place_register k) ≡ load_bytes s.mem (s.regs sp + size - (8 + 4 * k)) 4
  pub others : (r : ℕ) → r ≢ ra → r ≢ sp → r ≢ t0 → r ≢ t1 → r ≢ t2 → ((k : ℕ) → k < saved → r ≢ place_register k) → state.regs r ≡ s.regs r
  pub mem : state.mem ≡ s.mem

-- the words of a frame may be read
pub record HasFrame (text : Text) (s : State) (size : ℕ) : Type 0 where
  pub has_text : HasText text s.mem
  pub aligned : s.regs sp % 4 ≡ 0
  pub low : s.regs sp + size < 2 ^ 32
  pub readable : (a : ℕ) → s.regs sp ≤ a → a < s.regs sp + size → has_flag (text.flags a) to_read ≡ true

abbrev pub FrameIsGiven : Type 0
FrameIsGiven =
    (text : Text) (s : State) (size saved back e : ℕ) → HasFrame text s size → IsFrameSize size saved → CodeStands text s.pc (give_frame size saved) e → e < 2 ^ 32
    → load_bytes s.mem (s.regs sp + size - 4) 4 ≡ back → back < 2 ^ 32 → back % 2 ≡ 0 → GivenBack text s size saved back
