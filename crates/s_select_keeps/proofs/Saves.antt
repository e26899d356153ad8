-- Place registers that are stored below a frame's end, and loaded from there.
use Rattle.std.proofs.Common.{◌≡◌, ◌≢◌, ◌⊎◌, ℕ, zero, suc, ◌+◌, ◌-◌, ◌*◌, ◌%◌, ◌^◌, ◌<◌, ◌≤◌, true, [], ◌∷◌, refl, sym, ap, subst, ◌∙◌, arith, inl, inr}
use Rattle.std.proofs.lemmas.Bool.{both_ways, cases_lt}
use Rattle.rv_isa.specs.Registers.{t1}
use Rattle.rv_isa.specs.declared.instruction.Instr.TheVariants.{Lw, Sw}
use Rattle.rv_machine.specs.Machine.{State, next, give, after, set_register}
use Rattle.rv_machine.specs.Memory.{Bytes, load_bytes, store_bytes, has_flag, to_read, to_write}
use Rattle.rv_machine.specs.Standing.{Text, HasText, StandsAt, CodeStands}
use Rattle.rv_machine.proofs.lemmas.Standing.{code_is_cut}
use Rattle.rv_machine.proofs.lemmas.Stores.{stored_is_loaded, store_leaves_others, load_elsewhere}
use Rattle.rv_machine.proofs.lemmas.Texts.{flags_allow}
use Rattle.s_linear.specs.Frame.{registers}
use Rattle.s_select.specs.Operands.{negative, place_register}
use Rattle.s_select.specs.Templates.{save_places, restore_places}
use Rattle.s_select_keeps.specs.Steps.{Steps}
use Rattle.s_select_keeps.proofs.Locations.{place-above, register-is-place, registers-apart}
use Rattle.s_select_keeps.proofs.Operands.{load-acts, store-acts, stored}
use Rattle.s_select_keeps.proofs.Registers.{steps-none, steps-then, step-to, look-at, set-same, set-other}

-- the text is left by a store to bytes that may be written
pub text-left : (text : Text) (mem : Bytes) (a x : ℕ) → HasText text mem → ((j : ℕ) → j < 4 → has_flag (text.flags (a + j)) to_write ≡ true)
    → HasText text (store_bytes mem a x 4)
text-left text mem a x has writable n fixed = by (cases_lt n a)
  where
    by : (n < a) ⊎ (a ≤ n) → store_bytes mem a x 4 n ≡ text.bytes n
    by (inl before) = store_leaves_others mem a x 4 n (inl (omega (arith, before))) ∙ has n fixed
    by (inr from) = beyond (cases_lt n (a + 4))
      where
        beyond : (n < a + 4) ⊎ (a + 4 ≤ n) → store_bytes mem a x 4 n ≡ text.bytes n
        beyond (inr past) = store_leaves_others mem a x 4 n (inr past) ∙ has n fixed
        beyond (inl inside) =
            let same : a + (n - a) ≡ n = omega (arith, from) in
            absurd (both_ways (has_flag (text.flags n) to_write) fixed
            (subst (λ z. has_flag (text.flags z) to_write ≡ true) same (writable (n - a) (omega (arith, from, inside)))))

-- the address of the word of register k below the frame's end
pub word-place : (top d : ℕ) → d ≤ top → 0 < d → top < 2 ^ 32 → (top + negative d) % 2 ^ 32 ≡ top - d
word-place top d within some low = omega (arith, within, some, low)

module _ (text : Text) (top : ℕ) (even : top % 4 ≡ 0) (low : top < 2 ^ 32) where
  -- Up to address b so many place registers are stored; no register changes.
  pub record Saves (s : State) (b n : ℕ) : Type 0 where
    pub state : State
    pub steps : Steps text.flags s state
    pub pc : state.pc ≡ b
    pub regs : state.regs ≡ s.regs
    pub words : (k : ℕ) → k < n → load_bytes state.mem (top - (8 + 4 * k)) 4 ≡ s.regs (place_register k) % 2 ^ 32
    pub rest : (a : ℕ) → (a < top - (4 + 4 * n)) ⊎ (top - 4 ≤ a) → state.mem a ≡ s.mem a
    pub has_text : HasText text state.mem

  -- one register more
  saves-next : (n : ℕ) (s : State) (m b : ℕ) → Saves s m n → s.regs t1 ≡ top → 4 + 4 * suc n ≤ top → n < registers
      → ((a : ℕ) → top - (4 + 4 * suc n) ≤ a → a < top → has_flag (text.flags a) to_write ≡ true)
      → CodeStands text m (Sw t1 (place_register n) (negative (8 + 4 * n)) ∷ []) b → b < 2 ^ 32 → Saves s b (suc n)
  saves-next n s m b first is within few writable there small = record {
    state = last;
    steps = steps-then text.flags s u last first.steps step;
    pc = omega (arith, end, small);
    regs = first.regs;
    words = words;
    rest = rest;
    has_text = text-left text u.mem place x first.has_text writes;
  }
    where
      u : State
      u = first.state

      end : u.pc + 4 ≡ b
      end = let at = first.pc in let e : m + 4 ≡ b = there.1 in omega (arith, at, e)

      place : ℕ
      place = top - (8 + 4 * n)

      x : ℕ
      x = s.regs (place_register n)

      last : State
      last = stored u place x

      writes : (j : ℕ) → j < 4 → has_flag (text.flags (place + j)) to_write ≡ true
      writes j below = writable (place + j) (omega (arith, within)) (omega (arith, within, below))

      not-zero : place_register n ≢ 0
      not-zero same = let above = place-above (place_register n) (register-is-place n) in absurd (omega (arith, above, same))

      step : Steps text.flags u last
      step =
          step-to text u last (Sw t1 (place_register n) (negative (8 + 4 * n))) first.has_text
          (subst (λ a. StandsAt text a (Sw t1 (place_register n) (negative (8 + 4 * n)))) (sym first.pc) there.0)
          (store-acts text.flags u t1 (place_register n) (negative (8 + 4 * n)) place
          (ap (λ z. (z + negative (8 + 4 * n)) % 2 ^ 32) (ap (λ g. g t1) first.regs ∙ is) ∙ word-place top (8 + 4 * n) (omega (arith, within)) (omega arith) low)
          (omega (arith, even, within)) (flags_allow text.flags to_write place 4 writes)
          ∙ ap (λ z. next (stored u place z)) (look-at u.regs (place_register n) not-zero ∙ ap (λ g. g (place_register n)) first.regs))

      words : (k : ℕ) → k < suc n → load_bytes last.mem (top - (8 + 4 * k)) 4 ≡ s.regs (place_register k) % 2 ^ 32
      words k below = by (cases_lt k n)
        where
          by : (k < n) ⊎ (n ≤ k) → load_bytes last.mem (top - (8 + 4 * k)) 4 ≡ s.regs (place_register k) % 2 ^ 32
          by (inl less) = load_elsewhere u.mem place x 4 (top - (8 + 4 * k)) 4 (inr (omega (arith, less, within))) ∙ first.words k less
          by (inr from) =
              let same : n ≡ k = omega (arith, from, below) in
              subst (λ z. load_bytes last.mem (top - (8 + 4 * z)) 4 ≡ s.regs (place_register z) % 2 ^ 32) same (stored_is_loaded u.mem place x 4)

      rest : (a : ℕ) → (a < top - (4 + 4 * suc n)) ⊎ (top - 4 ≤ a) → last.mem a ≡ s.mem a
      rest a (inl before) = store_leaves_others u.mem place x 4 a (inl (omega (arith, before))) ∙ first.rest a (inl (omega (arith, before)))
      rest a (inr from) = store_leaves_others u.mem place x 4 a (inr (omega (arith, from, within))) ∙ first.rest a (inr from)

  pub saves : (n : ℕ) (s : State) (b : ℕ) → HasText text s.mem → s.regs t1 ≡ top → 4 + 4 * n ≤ top → n ≤ registers
      → ((a : ℕ) → top - (4 + 4 * n) ≤ a → a < top → has_flag (text.flags a) to_write ≡ true) → CodeStands text s.pc (save_places n) b → b < 2 ^ 32 → Saves s b n
  saves zero s b has is within few writable there small = record {
    state = s;
    steps = steps-none text.flags s;
    pc = there;
    regs = refl;
    words = λ k below. absurd (omega (arith, below));
    rest = λ a side. refl;
    has_text = has;
  }
  saves (suc n) s b has is within few writable there small =
      let cut = code_is_cut text s.pc b (save_places n) (Sw t1 (place_register n) (negative (8 + 4 * n)) ∷ []) there in
      let end : cut.0 + 4 ≡ b = cut.2.1 in
      let first = saves n s cut.0 has is (omega (arith, within)) (omega (arith, few)) (λ a from to. writable a (omega (arith, from)) to) cut.1
      (omega (arith, end, small)) in
      saves-next n s cut.0 b first is within (omega (arith, few)) writable cut.2 small

  -- Up to address b so many place registers are loaded; no other register changes, and no memory.
  pub record Restores (s : State) (b n : ℕ) : Type 0 where
    pub state : State
    pub steps : Steps text.flags s state
    pub pc : state.pc ≡ b
    pub words : (k : ℕ) → k < n → state.regs (place_register k) ≡ load_bytes s.mem (top - (8 + 4 * k)) 4
    pub others : (r : ℕ) → ((k : ℕ) → k < n → r ≢ place_register k) → state.regs r ≡ s.regs r
    pub mem : state.mem ≡ s.mem

  -- one register more
  restores-next : (n : ℕ) (s : State) (m b : ℕ) → HasText text s.mem → Restores s m n → s.regs t1 ≡ top → 4 + 4 * suc n ≤ top → n < registers
      → ((a : ℕ) → top - (4 + 4 * suc n) ≤ a → a < top → has_flag (text.flags a) to_read ≡ true)
      → CodeStands text m (Lw (place_register n) t1 (negative (8 + 4 * n)) ∷ []) b → b < 2 ^ 32 → Restores s b (suc n)
  unfolding give
  restores-next n s m b has first is within few readable there small = record {
    state = last;
    steps = steps-then text.flags s u last first.steps step;
    pc = omega (arith, end, small);
    words = words;
    others = λ r apart. set-other u.regs (place_register n) x r not-zero (apart n (omega arith)) ∙ first.others r (λ k below. apart k (omega (arith, below)));
    mem = first.mem;
  }
    where
      u : State
      u = first.state

      end : u.pc + 4 ≡ b
      end = let at = first.pc in let e : m + 4 ≡ b = there.1 in omega (arith, at, e)

      place : ℕ
      place = top - (8 + 4 * n)

      x : ℕ
      x = load_bytes u.mem place 4

      last : State
      last = record { pc = after u.pc; regs = set_register u.regs (place_register n) x; mem = u.mem }

      above-temporaries : (k : ℕ) → k ≤ n → 8 < place_register k
      above-temporaries k within = place-above (place_register k) (register-is-place k)

      not-zero : place_register n ≢ 0
      not-zero same = let above = above-temporaries n (omega arith) in absurd (omega (arith, above, same))

      has1 : HasText text u.mem
      has1 = subst (HasText text) (sym first.mem) has

      end-kept : u.regs t1 ≡ top
      end-kept = first.others t1 (λ k below same. let above = above-temporaries k (omega (arith, below)) in omega (arith, above, same)) ∙ is

      step : Steps text.flags u last
      step =
          step-to text u last (Lw (place_register n) t1 (negative (8 + 4 * n))) has1
          (subst (λ a. StandsAt text a (Lw (place_register n) t1 (negative (8 + 4 * n)))) (sym first.pc) there.0)
          (load-acts text.flags u (place_register n) t1 (negative (8 + 4 * n)) place
          (ap (λ z. (z + negative (8 + 4 * n)) % 2 ^ 32) end-kept ∙ word-place top (8 + 4 * n) (omega (arith, within)) (omega arith) low)
          (omega (arith, even, within))
          (flags_allow text.flags to_read place 4 (λ j below. readable (place + j) (omega (arith, within)) (omega (arith, within, below)))))

      words : (k : ℕ) → k < suc n → last.regs (place_register k) ≡ load_bytes s.mem (top - (8 + 4 * k)) 4
      words k below = by (cases_lt k n)
        where
          by : (k < n) ⊎ (n ≤ k) → last.regs (place_register k) ≡ load_bytes s.mem (top - (8 + 4 * k)) 4
          by (inl less) =
              set-other u.regs (place_register n) x (place_register k) not-zero (registers-apart k n (λ same. omega (arith, less, same))) ∙ first.words k less
          by (inr from) =
              let same : n ≡ k = omega (arith, from, below) in
              subst (λ z. last.regs (place_register z) ≡ load_bytes s.mem (top - (8 + 4 * z)) 4) same
              (set-same u.regs (place_register n) x not-zero ∙ ap (λ m. load_bytes m place 4) first.mem)

  pub restores : (n : ℕ) (s : State) (b : ℕ) → HasText text s.mem → s.regs t1 ≡ top → 4 + 4 * n ≤ top → n ≤ registers
      → ((a : ℕ) → top - (4 + 4 * n) ≤ a → a < top → has_flag (text.flags a) to_read ≡ true) → CodeStands text s.pc (restore_places n) b → b < 2 ^ 32 → Restores s b n
  restores zero s b has is within few readable there small = record {
    state = s;
    steps = steps-none text.flags s;
    pc = there;
    words = λ k below. absurd (omega (arith, below));
    others = λ r apart. refl;
    mem = refl;
  }
  restores (suc n) s b has is within few readable there small =
      let cut = code_is_cut text s.pc b (restore_places n) (Lw (place_register n) t1 (negative (8 + 4 * n)) ∷ []) there in
      let end : cut.0 + 4 ≡ b = cut.2.1 in
      let first = restores n s cut.0 has is (omega (arith, within)) (omega (arith, few)) (λ a from to. readable a (omega (arith, from)) to) cut.1
      (omega (arith, end, small)) in
      restores-next n s cut.0 b has first is within (omega (arith, few)) readable cut.2 small
