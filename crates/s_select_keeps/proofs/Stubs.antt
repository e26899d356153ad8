-- Registers that the stubs set for their calls, and what the stubs share.
use Rattle.std.proofs.Common.{◌≡◌, ◌≢◌, ◌⊎◌, ℕ, ◌+◌, ◌%◌, ◌^◌, ◌<◌, ◌≤◌, ◌==◌, true, List, ◌∷◌, refl, sym, ap, subst, ◌∙◌, arith, inl, inr, eq-eqb}
use Rattle.std.proofs.lemmas.Bool.{both_ways}
use Rattle.rv_isa.specs.Registers.{x0, ra, t0, a0, a1, a2, a7}
use Rattle.rv_isa.specs.declared.instruction.Instr.{Instr}
use Rattle.rv_isa.specs.declared.instruction.Instr.TheVariants.{Addi}
use Rattle.rv_machine.specs.Machine.{State, Effect, next, act, give, access}
use Rattle.rv_machine.specs.Memory.{Bytes, allowed, has_flag, to_write}
use Rattle.rv_machine.specs.Standing.{Text, HasText, CodeStands}
use Rattle.rv_machine.proofs.lemmas.Texts.{flags_allow}
use Rattle.s_select_keeps.specs.Relation.{IsKept}
use Rattle.s_select_keeps.specs.Steps.{Steps}
use Rattle.s_select_keeps.proofs.Registers.{Computes, steps-then, first-computes, code-after}
use Rattle.s_select_keeps.proofs.Locations.{kept-apart, kept-sides}

-- the code that sets the registers of a call with one byte, and what follows it
abbrev pub setting : (file number : ℕ) → List Instr → List Instr
setting file number rest = Addi a0 x0 file ∷ Addi a1 t0 0 ∷ Addi a2 x0 1 ∷ Addi a7 x0 number ∷ rest

byte-allowed : (flags : ℕ → ℕ) (flag a : ℕ) → has_flag (flags a) flag ≡ true → allowed flags flag a 1 ≡ true
byte-allowed flags flag a has =
    flags_allow flags flag a 1 (λ j below. let same : a + j ≡ a = omega (arith, below) in ap (λ n. has_flag (flags n) flag) same ∙ has)

pub access-byte : (flags : ℕ → ℕ) (flag a : ℕ) (s : State) (effect : Effect) → has_flag (flags a) flag ≡ true → access flags flag 1 a s effect ≡ effect
access-byte flags flag a s effect has =
    let even : (a % 1 == 0) ≡ true = eq-eqb (a % 1) 0 (omega arith) in
    let good : allowed flags flag a 1 ≡ true = byte-allowed flags flag a has in
    rw (even, good) refl

-- a byte that may be written is none of the text
pub text-keeps : (text : Text) (mem mem' : Bytes) (buffer : ℕ) → HasText text mem → has_flag (text.flags buffer) to_write ≡ true
    → ((a : ℕ) → a ≢ buffer → mem' a ≡ mem a) → HasText text mem'
text-keeps text mem mem' buffer has writable same a fixed =
    same a (λ e. both_ways (has_flag (text.flags a) to_write) fixed (subst (λ z. has_flag (text.flags z) to_write ≡ true) (sym e) writable)) ∙ has a fixed

-- registers that have been set
pub record Set (text : Text) (s : State) (file number buffer : ℕ) (rest : List Instr) (e : ℕ) : Type 0 where
  pub state : State
  pub steps : Steps text.flags s state
  pub code : CodeStands text state.pc rest e
  pub r10 : state.regs a0 ≡ file
  pub r11 : state.regs a1 ≡ buffer
  pub r12 : state.regs a2 ≡ 1
  pub r17 : state.regs a7 ≡ number
  pub return : state.regs ra ≡ s.regs ra
  pub kept : (r : ℕ) → IsKept r → state.regs r ≡ s.regs r
  pub mem : state.mem ≡ s.mem

-- one register of the call
register-set : (text : Text) (s : State) (e r x v : ℕ) (i : Instr) (rest : List Instr) → HasText text s.mem → CodeStands text s.pc (i ∷ rest) e → e < 2 ^ 32 → r ≢ 0
    → act text.flags i s ≡ next (give s r x) → x ≡ v → (one : Computes text s (s.pc + 4) r v) × CodeStands text one.state.pc rest e
register-set text s e r x v i rest has there low ne acts same =
    let one = first-computes text s e i rest r v has there low ne (acts ∙ ap (λ n. next (give s r n)) same) in
    (one, code-after text s e (s.pc + 4) r v rest one there.1)

pub sets : (text : Text) (s : State) (file number buffer : ℕ) (rest : List Instr) (e : ℕ) → HasText text s.mem
    → CodeStands text s.pc (setting file number rest) e → e < 2 ^ 32
    → s.regs t0 ≡ buffer → buffer < 2 ^ 32 → file < 2 ^ 32 → number < 2 ^ 32 → Set text s file number buffer rest e
unfolding act
sets text s file number buffer rest e has there low is small file_low number_low = record {
  state = four.0.state;
  steps =
      steps-then text.flags s one.0.state four.0.state one.0.steps
      (steps-then text.flags one.0.state two.0.state four.0.state two.0.steps
      (steps-then text.flags two.0.state three.0.state four.0.state three.0.steps four.0.steps));
  code = four.1;
  r10 = four.0.others a0 (omega arith) (omega arith) ∙ three.0.others a0 (omega arith) (omega arith) ∙ two.0.others a0 (omega arith) (omega arith) ∙ one.0.holds;
  r11 = four.0.others a1 (omega arith) (omega arith) ∙ three.0.others a1 (omega arith) (omega arith) ∙ two.0.holds;
  r12 = four.0.others a2 (omega arith) (omega arith) ∙ three.0.holds;
  r17 = four.0.holds;
  return = left ra (inl (omega arith)) (omega arith);
  kept = λ r side. left r (kept-sides r side) (kept-apart r 7 side (omega arith) (omega arith));
  mem = four.0.mem ∙ three.0.mem ∙ two.0.mem ∙ one.0.mem;
}
  where
    one : (c : Computes text s (s.pc + 4) a0 file) × CodeStands text c.state.pc (Addi a1 t0 0 ∷ Addi a2 x0 1 ∷ Addi a7 x0 number ∷ rest) e
    one = register-set text s e a0 ((0 + file) % 2 ^ 32) file (Addi a0 x0 file) (Addi a1 t0 0 ∷ Addi a2 x0 1 ∷ Addi a7 x0 number ∷ rest) has there low (omega arith) refl
        (omega (arith, file_low))

    has1 : HasText text one.0.state.mem
    has1 = subst (HasText text) (sym one.0.mem) has

    two : (c : Computes text one.0.state (one.0.state.pc + 4) a1 buffer) × CodeStands text c.state.pc (Addi a2 x0 1 ∷ Addi a7 x0 number ∷ rest) e
    two =
        register-set text one.0.state e a1 ((one.0.state.regs t0 + 0) % 2 ^ 32) buffer (Addi a1 t0 0) (Addi a2 x0 1 ∷ Addi a7 x0 number ∷ rest) has1 one.1 low
        (omega arith) refl
        (ap (λ n. (n + 0) % 2 ^ 32) (one.0.others t0 (omega arith) (omega arith) ∙ is) ∙ (let p : (buffer + 0) % 2 ^ 32 ≡ buffer = omega (arith, small) in p))

    has2 : HasText text two.0.state.mem
    has2 = subst (HasText text) (sym two.0.mem) has1

    three : (c : Computes text two.0.state (two.0.state.pc + 4) a2 1) × CodeStands text c.state.pc (Addi a7 x0 number ∷ rest) e
    three = register-set text two.0.state e a2 ((0 + 1) % 2 ^ 32) 1 (Addi a2 x0 1) (Addi a7 x0 number ∷ rest) has2 two.1 low (omega arith) refl (omega arith)

    has3 : HasText text three.0.state.mem
    has3 = subst (HasText text) (sym three.0.mem) has2

    four : (c : Computes text three.0.state (three.0.state.pc + 4) a7 number) × CodeStands text c.state.pc rest e
    four = register-set text three.0.state e a7 ((0 + number) % 2 ^ 32) number (Addi a7 x0 number) rest has3 three.1 low (omega arith) refl (omega (arith, number_low))

    apart : (r n : ℕ) → (r < 10) ⊎ (17 < r) → 10 ≤ n → n ≤ 17 → r ≢ n
    apart r n (inl low) from to same = absurd (omega (arith, low, from, same))
    apart r n (inr high) from to same = absurd (omega (arith, high, to, same))

    left : (r : ℕ) → (r < 10) ⊎ (17 < r) → r ≢ 7 → four.0.state.regs r ≡ s.regs r
    left r side far =
        four.0.others r (apart r a7 side (omega arith) (omega arith)) far ∙ three.0.others r (apart r a2 side (omega arith) (omega arith)) far
        ∙ two.0.others r (apart r a1 side (omega arith) (omega arith)) far ∙ one.0.others r (apart r a0 side (omega arith) (omega arith)) far
