-- What the instructions of a call and of a return do.
use Rattle.std.specs.Prelude.{◌≡◌, ◌≢◌, ℕ, ◌%◌, ◌^◌, ◌<◌}
use Rattle.rv_isa.specs.Registers.{x0, ra}
use Rattle.rv_isa.specs.declared.instruction.Instr.TheVariants.{Jalr}
use Rattle.rv_machine.specs.Machine.{State}
use Rattle.rv_layout.specs.Layout.{offset_to}
use Rattle.rv_layout.specs.Sequences.{call}
use Rattle.rv_machine.specs.Standing.{Text, HasText, StandsAt, CodeStands}
use Rattle.s_select_keeps.specs.Steps.{Steps}

-- At another address, with a return address. No other register and no memory has changed.
pub record Called (text : Text) (s : State) (target back : ℕ) : Type 0 where
  pub state : State
  pub steps : Steps text.flags s state
  pub pc : state.pc ≡ target
  pub return : state.regs ra ≡ back
  pub others : (r : ℕ) → r ≢ ra → state.regs r ≡ s.regs r
  pub mem : state.mem ≡ s.mem

-- A call leads to its target, and its return address is where it ends.
abbrev pub CallLeads : Type 0
CallLeads =
    (text : Text) (s : State) (target b : ℕ) → HasText text s.mem → CodeStands text s.pc (call (offset_to s.pc target)) b → b < 2 ^ 32 → target < 2 ^ 32 → target % 2 ≡ 0
    → Called text s target b

-- A return leads back to the return address.
abbrev pub ReturnLeads : Type 0
ReturnLeads =
    (text : Text) (s : State) (back : ℕ) → HasText text s.mem → StandsAt text s.pc (Jalr x0 ra 0) → s.regs ra ≡ back → back < 2 ^ 32 → back % 2 ≡ 0
    → Steps text.flags s (record { pc = back; regs = s.regs; mem = s.mem })
