-- What the start code of a program does: it calls `main`, and exits with its value.
use Rattle.std.specs.Prelude.{◌≡◌, ℕ, ◌+◌, ◌%◌, ◌^◌, ◌<◌, ◌≤◌}
use Rattle.elf_file.specs.Image.{text_at, stack_size}
use Rattle.rv_isa.specs.Registers.{ra, sp, s0, a0}
use Rattle.rv_machine.specs.Machine.{State}
use Rattle.rv_machine.specs.Standing.{Text, HasText, CodeStands}
use Rattle.rv_layout.specs.Sequences.{start_code}
use Rattle.s_select_keeps.specs.Steps.{Steps, Exits}

-- where `main` comes back to
abbrev pub main_returns : ℕ
main_returns = text_at + 24

-- `main` is called, with the base of the stack in s0 and the stack pointer at its end. No memory has changed.
pub record Started (text : Text) (stack main : ℕ) (s : State) : Type 0 where
  pub state : State
  pub steps : Steps text.flags s state
  pub pc : state.pc ≡ main
  pub base : state.regs s0 ≡ stack
  pub top : state.regs sp ≡ stack + stack_size
  pub return : state.regs ra ≡ main_returns
  pub mem : state.mem ≡ s.mem

abbrev pub MainIsCalled : Type 0
MainIsCalled =
    (text : Text) (s : State) (stack main e : ℕ) → HasText text s.mem → s.pc ≡ text_at → CodeStands text text_at (start_code stack main) e → stack + stack_size < 2 ^ 32
    → main_returns ≤ main → main < 2 ^ 32 → main % 2 ≡ 0 → Started text stack main s

-- The program exits with the low byte of what `main` gives.
abbrev pub MainExits : Type 0
MainExits =
    (text : Text) (s : State) (stack main e v : ℕ) → HasText text s.mem → s.pc ≡ main_returns → CodeStands text text_at (start_code stack main) e → s.regs a0 ≡ v
    → Exits text.flags s (v % 256)
