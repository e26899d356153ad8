-- What the stubs that write and read a byte do.
use Rattle.std.specs.Prelude.{◌≡◌, ℕ, ◌-◌, ◌%◌, ◌^◌, ◌<◌, true, List, [], ◌∷◌}
use Rattle.rv_isa.specs.Registers.{ra, a0}
use Rattle.rv_machine.specs.Laws.{Reaches}
use Rattle.rv_machine.specs.Machine.{State}
use Rattle.rv_machine.specs.Memory.{Bytes, put_at, store_bytes, has_flag, to_read, to_write}
use Rattle.rv_machine.specs.Standing.{Text, HasText, CodeStands}
use Rattle.rv_layout.specs.Sequences.{put_stub, get_stub}
use Rattle.s_select_keeps.specs.Relation.{IsKept}

-- A stub has written these bytes and taken what is missing of the input, and has returned, with this memory. No register of a place
-- has changed, nor the stack pointer and the stack's base.
pub record FromStub (text : Text) (s : State) (back : ℕ) (left : Bytes) (input written rest : List ℕ) : Type 0 where
  pub state : State
  pub count : ℕ
  pub reaches : Reaches text.flags count s input written state rest
  pub pc : state.pc ≡ back
  pub kept : (r : ℕ) → IsKept r → state.regs r ≡ s.regs r
  pub mem : state.mem ≡ left

-- a stub is called, and its buffer can be read and written
pub record StubIsCalled (text : Text) (s : State) (buffer back : ℕ) : Type 0 where
  pub has_text : HasText text s.mem
  pub return : s.regs ra ≡ back
  pub low : back < 2 ^ 32
  pub even : back % 2 ≡ 0
  pub buffer_low : buffer < 2 ^ 32
  pub readable : has_flag (text.flags buffer) to_read ≡ true
  pub writable : has_flag (text.flags buffer) to_write ≡ true

-- The low byte of a0 is written, by way of the buffer.
abbrev pub PutStubWrites : Type 0
PutStubWrites =
    (text : Text) (s : State) (buffer back word e : ℕ) (input : List ℕ) → StubIsCalled text s buffer back → CodeStands text s.pc (put_stub buffer) e → e < 2 ^ 32
    → s.regs a0 ≡ word
    → FromStub text s back (store_bytes s.mem buffer word 1) input (word % 256 ∷ []) input

-- The next byte of the input is in a0, by way of the buffer, and at its end -1.
pub record GetStubReads : Type 0 where
  pub byte : (text : Text) (s : State) (buffer back b e : ℕ) (input : List ℕ) → StubIsCalled text s buffer back → CodeStands text s.pc (get_stub buffer) e → e < 2 ^ 32
      → (h : FromStub text s back (put_at s.mem buffer b) (b ∷ input) [] input) × (h.state.regs a0 ≡ b)
  pub end : (text : Text) (s : State) (buffer back e : ℕ) → StubIsCalled text s buffer back → CodeStands text s.pc (get_stub buffer) e → e < 2 ^ 32
      → (h : FromStub text s back s.mem [] [] []) × (h.state.regs a0 ≡ 2 ^ 32 - 1)
