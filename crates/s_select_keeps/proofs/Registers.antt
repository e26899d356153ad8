-- One instruction, or several, whose result is in a register.
use Rattle.std.proofs.Common.{◌≡◌, ◌≢◌, ◌⊎◌, ℕ, ◌+◌, ◌*◌, ◌%◌, ◌^◌, ◌<◌, ◌≤◌, nat_lt, Bool, true, false, cond, List, [], ◌∷◌, refl, sym, ap, subst, ◌∙◌, arith, inl, inr, eq-eqb}
use Rattle.std.proofs.lemmas.Bool.{ne_eqb}
use Rattle.rv_isa.specs.Registers.{x0}
use Rattle.rv_isa.specs.Words.{word_of}
use Rattle.rv_isa.specs.WordParts.{upper_part, low_part}
use Rattle.rv_isa.specs.declared.instruction.Instr.{Instr}
use Rattle.rv_isa.specs.declared.instruction.Instr.TheVariants.{Lui, Addi}
use Rattle.rv_isa.proofs.lemmas.EncodedDecodes.{encoded_decodes}
use Rattle.rv_isa.proofs.lemmas.WordParts.{parts_make_word}
use Rattle.rv_machine.specs.Machine.{State, next, act, give, look, set_register}
use Rattle.rv_machine.specs.Run.{running}
use Rattle.rv_machine.proofs.lemmas.RunLaws.{run-zero, step_reaches, reaches_onwards}
use Rattle.rv_layout.specs.Sequences.{load_address}
use Rattle.s_select.specs.Operands.{t2, load_immediate}
use Rattle.rv_machine.specs.Standing.{Text, HasText, StandsAt, CodeStands}
use Rattle.s_select_keeps.specs.Steps.{Steps}
use Rattle.rv_machine.proofs.lemmas.Standing.{fetched-there}

-- ---- steps

pub steps-none : (flags : ℕ → ℕ) (s : State) → Steps flags s s
steps-none flags s = record { count = 0; reaches = λ input. record { to = run-zero flags (running s) input } }

pub steps-then : (flags : ℕ → ℕ) (s t u : State) → Steps flags s t → Steps flags t u → Steps flags s u
steps-then flags s t u first second = record {
  count = first.count + second.count;
  reaches = λ input. reaches_onwards flags first.count second.count s t u input [] input [] input (first.reaches input) (second.reaches input);
}

pub step-to : (text : Text) (s t : State) (i : Instr) → HasText text s.mem → StandsAt text s.pc i → act text.flags i s ≡ next t → Steps text.flags s t
step-to text s t i has there does = record {
  count = 1;
  reaches = λ input. step_reaches text.flags s t (word_of i) i input (fetched-there text s i has there) (encoded_decodes i there.fits) does;
}

-- ---- registers

pub look-at : (regs : ℕ → ℕ) (r : ℕ) → r ≢ 0 → look regs r ≡ regs r
look-at regs r ne = rw (ne_eqb r 0 ne) refl

pub set-same : (regs : ℕ → ℕ) (rd n : ℕ) → rd ≢ 0 → set_register regs rd n rd ≡ n
set-same regs rd n ne = rw (ne_eqb rd 0 ne) rw (eq-eqb rd rd refl) refl

pub set-other : (regs : ℕ → ℕ) (rd n r : ℕ) → rd ≢ 0 → r ≢ rd → set_register regs rd n r ≡ regs r
set-other regs rd n r ne other = rw (ne_eqb rd 0 ne) rw (ne_eqb r rd other) refl

-- Up to address b a register gets a word. No memory changes, and no other register but t2, in which addresses are made.
pub record Computes (text : Text) (s : State) (b rd x : ℕ) : Type 0 where
  pub state : State
  pub steps : Steps text.flags s state
  pub pc : state.pc ≡ b
  pub holds : state.regs rd ≡ x
  pub others : (r : ℕ) → r ≢ rd → r ≢ t2 → state.regs r ≡ s.regs r
  pub mem : state.mem ≡ s.mem

module _ (text : Text) where
  pub code-le : (a : ℕ) (code : List Instr) (b : ℕ) → CodeStands text a code b → a ≤ b
  code-le a [] b h = let e : a ≡ b = h in omega (arith, e)
  code-le a (i ∷ is) b h = let more = code-le (a + 4) is b h.1 in omega (arith, more)

  -- an instruction, and code after it
  pub first-computes : (s : State) (b : ℕ) (i : Instr) (is : List Instr) (rd x : ℕ) → HasText text s.mem → CodeStands text s.pc (i ∷ is) b → b < 2 ^ 32 → rd ≢ 0
      → act text.flags i s ≡ next (give s rd x) → Computes text s (s.pc + 4) rd x
  unfolding give
  first-computes s b i is rd x has code low ne does =
      let more = code-le (s.pc + 4) is b code.1 in
      record {
        state = give s rd x;
        steps = step-to text s (give s rd x) i has code.0 does;
        pc = omega (arith, more, low);
        holds = set-same s.regs rd x ne;
        others = λ r other _. set-other s.regs rd x r ne other;
        mem = refl;
      }

  -- one after the other, where the first register is the second or t2
  pub computes-then : (s : State) (m b rd x rd' y : ℕ) → (one : Computes text s m rd x) → (rd ≡ rd') ⊎ (rd ≡ t2) → Computes text one.state b rd' y
      → Computes text s b rd' y
  computes-then s m b rd x rd' y one is two = record {
    state = two.state;
    steps = steps-then text.flags s one.state two.state one.steps two.steps;
    pc = two.pc;
    holds = two.holds;
    others = λ r other far. two.others r other far ∙ one.others r (apart r other far is) far;
    mem = two.mem ∙ one.mem;
  }
    where
      apart : (r : ℕ) → r ≢ rd' → r ≢ t2 → (rd ≡ rd') ⊎ (rd ≡ t2) → r ≢ rd
      apart r other far (inl e) same = other (same ∙ e)
      apart r other far (inr e) same = far (same ∙ e)

  -- what follows the first instruction
  pub code-after : (s : State) (b m rd x : ℕ) (is : List Instr) → (one : Computes text s m rd x) → CodeStands text m is b → CodeStands text one.state.pc is b
  code-after s b m rd x is one h = subst (λ a. CodeStands text a is b) (sym one.pc) h

  pub text-after : (s : State) (m rd x : ℕ) → (one : Computes text s m rd x) → HasText text s.mem → HasText text one.state.mem
  text-after s m rd x one has = subst (HasText text) (sym one.mem) has

  computes-at : (s : State) (b c rd x : ℕ) → b ≡ c → Computes text s b rd x → Computes text s c rd x
  computes-at s b c rd x e h = subst (λ a. Computes text s a rd x) e h

  -- one instruction alone
  pub one-computes : (s : State) (b : ℕ) (i : Instr) (rd x : ℕ) → HasText text s.mem → CodeStands text s.pc (i ∷ []) b → b < 2 ^ 32 → rd ≢ 0
      → act text.flags i s ≡ next (give s rd x) → Computes text s b rd x
  one-computes s b i rd x has code low ne does = computes-at s (s.pc + 4) b rd x code.1 (first-computes s b i [] rd x has code low ne does)

  -- an instruction that goes on with its own register, or with t2
  pub two-compute : (s : State) (b : ℕ) (i j : Instr) (rd x rd' y : ℕ) → HasText text s.mem → CodeStands text s.pc (i ∷ j ∷ []) b → b < 2 ^ 32 → rd ≢ 0 → rd' ≢ 0
      → (rd ≡ rd') ⊎ (rd ≡ t2) → act text.flags i s ≡ next (give s rd x)
      → ((u : State) → u.regs rd ≡ x → ((r : ℕ) → r ≢ rd → r ≢ t2 → u.regs r ≡ s.regs r) → u.mem ≡ s.mem → act text.flags j u ≡ next (give u rd' y))
      → Computes text s b rd' y
  two-compute s b i j rd x rd' y has code low ne ne' is does more =
      let one = first-computes s b i (j ∷ []) rd x has code low ne does in
      computes-then s (s.pc + 4) b rd x rd' y one is
      (one-computes one.state b j rd' y (text-after s (s.pc + 4) rd x one has) (code-after s b (s.pc + 4) rd x (j ∷ []) one code.1) low ne'
      (more one.state one.holds one.others one.mem))

  -- ---- a word in a register

  pub address-loads : (s : State) (b rd v : ℕ) → HasText text s.mem → CodeStands text s.pc (load_address rd v) b → b < 2 ^ 32 → rd ≢ 0 → v < 2 ^ 32
      → Computes text s b rd v
  unfolding act
  address-loads s b rd v has code low ne fits =
      two-compute s b (Lui rd (upper_part v)) (Addi rd rd (low_part v)) rd (upper_part v * 2 ^ 12) rd v has code low ne ne (inl refl) refl
      (λ u is others mem.
      ap (λ n. next (give u rd n)) (ap (λ n. (n + low_part v) % 2 ^ 32) (look-at u.regs rd ne ∙ is) ∙ parts_make_word v fits))

  pub immediate-loads : (s : State) (b rd v : ℕ) → HasText text s.mem → CodeStands text s.pc (load_immediate rd v) b → b < 2 ^ 32 → rd ≢ 0 → v < 2 ^ 32
      → Computes text s b rd v
  unfolding act
  immediate-loads s b rd v has code low ne fits = by (nat_lt ((v + 2048) % 2 ^ 32) 4096) code
    where
      by : (test : Bool) → CodeStands text s.pc (cond test (Addi rd x0 v ∷ []) (load_address rd v)) b → Computes text s b rd v
      by true h =
          one-computes s b (Addi rd x0 v) rd v has h low ne (ap (λ n. next (give s rd n)) (let e : (0 + v) % 2 ^ 32 ≡ v = omega (arith, fits) in e))
      by false h = address-loads s b rd v has h low ne fits
