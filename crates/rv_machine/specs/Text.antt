-- Text that was decoded once: what it is of the bytes of a segment, and of the memory.
use Rattle.std.specs.Prelude.{◌≡◌, ℕ, ◌+◌, ◌*◌, ◌%◌, ◌<◌, ◌≤◌, true, false, List, length, take, drop, slice_index_or, Option}
use Rattle.rv_isa.specs.Encodings.{decoded}
use Rattle.rv_isa.specs.declared.instruction.Instr.{Instr}
use Rattle.rv_machine.specs.Memory.{Bytes, number, load_bytes, has_flag, to_write, to_execute}

-- the first words of these bytes, decoded
pub record AreDecoded (bytes : List ℕ) (words : List (Option Instr)) : Type 0 where
  pub within : 4 * length words ≤ length bytes
  pub each : (i : ℕ) (d : Option Instr) → i < length words → slice_index_or words i d ≡ decoded (number (take 4 (drop (4 * i) bytes)))

-- the words of memory from an address on, decoded, which may be executed and not written
pub record IsText (flags : ℕ → ℕ) (mem : Bytes) (at : ℕ) (words : List (Option Instr)) : Type 0 where
  pub aligned : at % 4 ≡ 0
  pub executable : (a : ℕ) → at ≤ a → a < at + 4 * length words → has_flag (flags a) to_execute ≡ true
  pub fixed : (a : ℕ) → at ≤ a → a < at + 4 * length words → has_flag (flags a) to_write ≡ false
  pub each : (i : ℕ) (d : Option Instr) → i < length words → slice_index_or words i d ≡ decoded (load_bytes mem (at + 4 * i) 4)

-- the word at an address, decoded, is one of these, which stand from another address on
abbrev pub IsWordAt : (at : ℕ) (words : List (Option Instr)) (address : ℕ) → Option Instr → Type 0
IsWordAt at words address word =
    (i : ℕ) × (i < length words) × (address ≡ at + 4 * i) × (slice_index_or words i word ≡ word)
