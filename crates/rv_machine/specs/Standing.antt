-- Where code stands in memory: an instruction at its address, and instructions between two addresses.
use Rattle.std.specs.Prelude.{◌≡◌, ℕ, ◌+◌, ◌%◌, ◌<◌, true, false, List, [], ◌∷◌}
use Rattle.rv_isa.specs.Words.{word_of, FitsFormat}
use Rattle.rv_isa.specs.declared.instruction.Instr.{Instr}
use Rattle.rv_machine.specs.Memory.{Bytes, load_bytes, allowed, has_flag, to_write, to_execute}

-- what is allowed at each address, and the bytes as they were loaded
pub record Text : Type 0 where
  pub flags : ℕ → ℕ
  pub bytes : Bytes

-- a memory has the text's bytes wherever none may be written
abbrev pub HasText : Text → Bytes → Type 0
HasText text mem = (a : ℕ) → has_flag (text.flags a) to_write ≡ false → mem a ≡ text.bytes a

-- an instruction is at an address, where it may be executed and not written
pub record StandsAt (text : Text) (at : ℕ) (i : Instr) : Type 0 where
  pub word : load_bytes text.bytes at 4 ≡ word_of i
  pub executable : allowed text.flags to_execute at 4 ≡ true
  pub fixed : (j : ℕ) → j < 4 → has_flag (text.flags (at + j)) to_write ≡ false
  pub aligned : at % 4 ≡ 0
  pub fits : FitsFormat i

-- instructions one after the other, from address a up to b
abbrev pub CodeStands : Text → (a : ℕ) → List Instr → (b : ℕ) → Type 0
CodeStands text a [] b = a ≡ b
CodeStands text a (i ∷ is) b = StandsAt text a i × CodeStands text (a + 4) is b

-- each instruction fits its format
abbrev pub AllFit : List Instr → Type 0
AllFit [] = Unit {0}
AllFit (i ∷ is) = FitsFormat i × AllFit is
