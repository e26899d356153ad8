-- The templates that take and give back the frame of a function.
use Rattle.std.proofs.Common.{◌≡◌, ◌≢◌, ◌⊎◌, ℕ, ◌+◌, ◌-◌, ◌*◌, ◌%◌, ◌^◌, ◌<◌, ◌≤◌, nat_lt, not, cond, Bool, true, false, List, [], ◌∷◌, ◌++◌, refl, sym, ap, ap₂, subst, ◌∙◌, append_assoc, arith, inl, inr}
use Rattle.std.proofs.lemmas.Bool.{lt-ltb, le-ltb}
use Rattle.rv_isa.specs.Registers.{x0, ra, sp, t0, t1, s0}
use Rattle.rv_isa.specs.declared.instruction.Instr.{Instr}
use Rattle.rv_isa.specs.declared.instruction.Instr.TheVariants.{Jalr, Bgeu, Lw, Sw, Addi, Add, Sub, Ebreak}
use Rattle.rv_machine.specs.Machine.{State, next, stack, act, give, offset, after}
use Rattle.rv_machine.specs.Memory.{load_bytes, has_flag, to_read, to_write}
use Rattle.rv_machine.specs.Standing.{Text, HasText, StandsAt, CodeStands}
use Rattle.rv_machine.proofs.lemmas.Standing.{code_is_cut, standing_ends}
use Rattle.rv_machine.proofs.lemmas.Stores.{stored_is_loaded, store_leaves_others, load-agrees}
use Rattle.rv_machine.proofs.lemmas.Texts.{flags_allow}
use Rattle.s_select.specs.Operands.{t2, negative, load_immediate, place_register}
use Rattle.s_select.specs.Templates.{give_frame, save_places, restore_places}
use Rattle.s_select_keeps.specs.Frames.{HasStack, IsFrameSize, FrameIsTaken, StackIsExceeded, GivenBack, HasFrame, FrameIsGiven}
use Rattle.s_select_keeps.specs.Steps.{Steps}
use Rattle.s_select_keeps.proofs.Calls.{return_leads}
use Rattle.s_select_keeps.proofs.Locations.{place-above, register-is-place}
use Rattle.s_select_keeps.proofs.Operands.{load-acts, store-acts, stored}
use Rattle.s_select_keeps.proofs.Registers.{Computes, steps-then, step-to, code-le, first-computes, code-after, immediate-loads}
use Rattle.s_select_keeps.proofs.Saves.{text-left, word-place, Saves, saves, Restores, restores}

-- what follows the stack's test
abbrev taking : (saved : ℕ) → List Instr
taking saved = Sub sp sp t0 ∷ Add t1 sp t0 ∷ Sw t1 ra (negative 4) ∷ save_places saved

-- the stack's test
abbrev testing : (saved : ℕ) → List Instr
testing saved = Sub t1 sp s0 ∷ Bgeu t1 t0 8 ∷ Ebreak ∷ taking saved

-- the machine at another address
abbrev at : State → ℕ → State
at s a = record { pc = a; regs = s.regs; mem = s.mem }

-- The test has been made: t0 has the size, and t1 what the stack has left.
record Tested (text : Text) (s : State) (size saved e : ℕ) : Type 0 where
  state : State
  steps : Steps text.flags s state
  has_text : HasText text state.mem
  code : CodeStands text state.pc (Bgeu t1 t0 8 ∷ Ebreak ∷ taking saved) e
  size_is : state.regs t0 ≡ size
  left : state.regs t1 ≡ s.regs sp - s.regs s0
  others : (r : ℕ) → r ≢ t0 → r ≢ t1 → r ≢ t2 → state.regs r ≡ s.regs r
  mem : state.mem ≡ s.mem

tests : (text : Text) (s : State) (size saved e : ℕ) → HasStack text s → IsFrameSize size saved
    → CodeStands text s.pc (load_immediate t0 size ++ testing saved) e → e < 2 ^ 32
    → Tested text s size saved e
unfolding act
tests text s size saved e has frame there low = record {
  state = two.state;
  steps = steps-then text.flags s one.state two.state one.steps two.steps;
  has_text = subst (HasText text) (sym two.mem) has1;
  code = code-after text one.state e (one.state.pc + 4) t1 (s.regs sp - s.regs s0) (Bgeu t1 t0 8 ∷ Ebreak ∷ taking saved) two code1.1;
  size_is = two.others t0 (omega arith) (omega arith) ∙ one.holds;
  left = two.holds;
  others = λ r a b c. two.others r b c ∙ one.others r a c;
  mem = two.mem ∙ one.mem;
}
  where
    cut : (m : ℕ) × CodeStands text s.pc (load_immediate t0 size) m × CodeStands text m (testing saved) e
    cut = code_is_cut text s.pc e (load_immediate t0 size) (testing saved) there

    one : Computes text s cut.0 t0 size
    one = immediate-loads text s cut.0 t0 size has.has_text cut.1 (let le = code-le text cut.0 (testing saved) e cut.2 in omega (arith, le, low)) (omega arith) frame.low

    has1 : HasText text one.state.mem
    has1 = subst (HasText text) (sym one.mem) has.has_text

    code1 : CodeStands text one.state.pc (testing saved) e
    code1 = subst (λ a. CodeStands text a (testing saved) e) (sym one.pc) cut.2

    two : Computes text one.state (one.state.pc + 4) t1 (s.regs sp - s.regs s0)
    two =
        first-computes text one.state e (Sub t1 sp s0) (Bgeu t1 t0 8 ∷ Ebreak ∷ taking saved) t1 (s.regs sp - s.regs s0) has1 code1 low (omega arith)
        (ap (λ n. next (give one.state t1 n))
        (ap₂ (λ a b. (a + (2 ^ 32 - b)) % 2 ^ 32) (one.others sp (omega arith) (omega arith)) (one.others s0 (omega arith) (omega arith))
        ∙ (let base = has.base in let small = has.low in let d : (s.regs sp + (2 ^ 32 - s.regs s0)) % 2 ^ 32 ≡ s.regs sp - s.regs s0 = omega (arith, base, small) in d)))

-- where the branch of the test goes
branches : (text : Text) (s : State) (size saved e : ℕ) (test : Bool) (h : Tested text s size saved e) → nat_lt (s.regs sp - s.regs s0) size ≡ test
    → Steps text.flags h.state (at h.state (cond (not test) (offset h.state.pc 8) (after h.state.pc)))
unfolding act
branches text s size saved e test h is =
    step-to text h.state (at h.state (cond (not test) (offset h.state.pc 8) (after h.state.pc))) (Bgeu t1 t0 8) h.has_text h.code.0
    (ap₂ (λ a b. next (at h.state (cond (not (nat_lt a b)) (offset h.state.pc 8) (after h.state.pc)))) h.left h.size_is
    ∙ ap (λ b. next (at h.state (cond (not b) (offset h.state.pc 8) (after h.state.pc)))) is)

pub stack_is_exceeded : StackIsExceeded
unfolding act
stack_is_exceeded text s size saved e has frame there low less = record {
  count = before.count + 1;
  runs = λ input. standing_ends text before.count 0 s u Ebreak stack input [] input has.has_text (before.reaches input) code refl;
}
  where
    h : Tested text s size saved e
    h = tests text s size saved e has frame there low

    u : State
    u = at h.state (after h.state.pc)

    before : Steps text.flags s u
    before = steps-then text.flags s h.state u h.steps (branches text s size saved e true h (lt-ltb (s.regs sp - s.regs s0) size less))

    code : StandsAt text u.pc Ebreak
    code =
        let le = code-le text (h.state.pc + 4 + 4) (taking saved) e h.code.1.1 in
        subst (λ a. StandsAt text a Ebreak) (let p : h.state.pc + 4 ≡ (h.state.pc + 4) % 2 ^ 32 = omega (arith, le, low) in p) h.code.1.0

pub frame_is_taken : FrameIsTaken
unfolding act
frame_is_taken text s size saved e has frame there low enough = record {
  state = last.state;
  steps =
      steps-then text.flags s h.state last.state h.steps
      (steps-then text.flags h.state u last.state over
      (steps-then text.flags u one.state last.state one.steps
      (steps-then text.flags one.state two.state last.state two.steps
      (steps-then text.flags two.state three last.state store last.steps))));
  pc = last.pc;
  sp_is = ap (λ g. g sp) last.regs ∙ two.others sp (omega arith) (omega arith) ∙ one.holds;
  others = λ r a b c d. ap (λ g. g r) last.regs ∙ two.others r c d ∙ one.others r a d ∙ h.others r b c d;
  return =
      load-agrees three.mem last.state.mem (top - 4) 4 (λ j below. last.rest (top - 4 + j) (inr (omega arith)))
      ∙ stored_is_loaded two.state.mem (top - 4) return 4
      ∙ ap (λ n. n % 2 ^ (8 * 4)) return-is;
  saves = λ k below. last.words k below ∙ ap (λ n. n % 2 ^ 32) (unchanged (place_register k) (place-register-above k (omega (arith, below, few))));
  memory = memory;
  has_text = last.has_text;
}
  where
    top : ℕ
    top = s.regs sp

    few : saved ≤ 11
    few = frame.saved_low

    within : 4 + 4 * saved ≤ top
    within = let holds = frame.holds in let base = has.base in omega (arith, holds, enough)

    h : Tested text s size saved e
    h = tests text s size saved e has frame there low

    u : State
    u = at h.state (offset h.state.pc 8)

    over : Steps text.flags h.state u
    over = branches text s size saved e false h (le-ltb (s.regs sp - s.regs s0) size enough)

    code1 : CodeStands text u.pc (taking saved) e
    code1 =
        let le = code-le text (h.state.pc + 4 + 4) (taking saved) e h.code.1.1 in
        subst (λ a. CodeStands text a (taking saved) e) (let p : h.state.pc + 4 + 4 ≡ (h.state.pc + 8) % 2 ^ 32 = omega (arith, le, low) in p) h.code.1.1

    one : Computes text u (u.pc + 4) sp (top - size)
    one =
        first-computes text u e (Sub sp sp t0) (Add t1 sp t0 ∷ Sw t1 ra (negative 4) ∷ save_places saved) sp (top - size) h.has_text code1 low (omega arith)
        (ap (λ n. next (give u sp n))
        (ap₂ (λ a b. (a + (2 ^ 32 - b)) % 2 ^ 32) (h.others sp (omega arith) (omega arith) (omega arith)) h.size_is
        ∙ (let small = has.low in let d : (s.regs sp + (2 ^ 32 - size)) % 2 ^ 32 ≡ s.regs sp - size = omega (arith, enough, small) in d)))

    has1 : HasText text one.state.mem
    has1 = subst (HasText text) (sym one.mem) h.has_text

    code2 : CodeStands text one.state.pc (Add t1 sp t0 ∷ Sw t1 ra (negative 4) ∷ save_places saved) e
    code2 = code-after text u e (u.pc + 4) sp (top - size) (Add t1 sp t0 ∷ Sw t1 ra (negative 4) ∷ save_places saved) one code1.1

    two : Computes text one.state (one.state.pc + 4) t1 top
    two =
        first-computes text one.state e (Add t1 sp t0) (Sw t1 ra (negative 4) ∷ save_places saved) t1 top has1 code2 low (omega arith)
        (ap (λ n. next (give one.state t1 n))
        (ap₂ (λ a b. (a + b) % 2 ^ 32) one.holds (one.others t0 (omega arith) (omega arith) ∙ h.size_is)
        ∙ (let small = has.low in let d : (s.regs sp - size + size) % 2 ^ 32 ≡ s.regs sp = omega (arith, enough, small) in d)))

    has2 : HasText text two.state.mem
    has2 = subst (HasText text) (sym two.mem) has1

    code3 : CodeStands text two.state.pc (Sw t1 ra (negative 4) ∷ save_places saved) e
    code3 = code-after text one.state e (one.state.pc + 4) t1 top (Sw t1 ra (negative 4) ∷ save_places saved) two code2.1

    return : ℕ
    return = two.state.regs ra

    three : State
    three = stored two.state (top - 4) return

    writes : (a : ℕ) → top - (4 + 4 * saved) ≤ a → a < top → has_flag (text.flags a) to_write ≡ true
    writes a from to = has.writable a (let holds = frame.holds in let base = has.base in omega (arith, holds, enough, from, base)) to

    store : Steps text.flags two.state three
    store =
        step-to text two.state three (Sw t1 ra (negative 4)) has2 code3.0
        (store-acts text.flags two.state t1 ra (negative 4) (top - 4)
        (ap (λ z. (z + negative 4) % 2 ^ 32) two.holds ∙ word-place top 4 (omega (arith, within)) (omega arith) has.low)
        (let even = has.aligned in omega (arith, even, within))
        (flags_allow text.flags to_write (top - 4) 4 (λ j below. writes (top - 4 + j) (omega (arith, within)) (omega (arith, within, below)))))

    code4 : CodeStands text three.pc (save_places saved) e
    code4 =
        let le = code-le text (two.state.pc + 4) (save_places saved) e code3.1 in
        subst (λ a. CodeStands text a (save_places saved) e) (let p : two.state.pc + 4 ≡ (two.state.pc + 4) % 2 ^ 32 = omega (arith, le, low) in p) code3.1

    last : Saves text top has.aligned has.low three e saved
    last =
        saves text top has.aligned has.low saved three e
        (text-left text two.state.mem (top - 4) return has2 (λ j below. writes (top - 4 + j) (omega (arith, within)) (omega (arith, within, below))))
        two.holds within few writes code4 low

    place-register-above : (k : ℕ) → k < 11 → 8 < place_register k
    place-register-above k below = place-above (place_register k) (register-is-place k)

    unchanged : (r : ℕ) → 8 < r → two.state.regs r ≡ s.regs r
    unchanged r above =
        two.others r (λ e. omega (arith, above, e)) (λ e. omega (arith, above, e)) ∙ one.others r (λ e. omega (arith, above, e)) (λ e. omega (arith, above, e))
        ∙ h.others r (λ e. omega (arith, above, e)) (λ e. omega (arith, above, e)) (λ e. omega (arith, above, e))

    return-is : return ≡ s.regs ra
    return-is =
        two.others ra (omega arith) (omega arith) ∙ one.others ra (omega arith) (omega arith) ∙ h.others ra (omega arith) (omega arith) (omega arith)

    mem2 : two.state.mem ≡ s.mem
    mem2 = two.mem ∙ one.mem ∙ h.mem

    memory : (a : ℕ) → (a < top - (4 + 4 * saved)) ⊎ (top ≤ a) → last.state.mem a ≡ s.mem a
    memory a (inl before) =
        last.rest a (inl before) ∙ store_leaves_others two.state.mem (top - 4) return 4 a (inl (omega (arith, before))) ∙ ap (λ m. m a) mem2
    memory a (inr from) =
        last.rest a (inr (omega (arith, from))) ∙ store_leaves_others two.state.mem (top - 4) return 4 a (inr (omega (arith, from, within))) ∙ ap (λ m. m a) mem2

-- ---- the end of a function

-- what follows the frame's end in t1
abbrev leaving : List Instr
leaving = Lw ra t1 (negative 4) ∷ Addi sp t1 0 ∷ Jalr x0 ra 0 ∷ []

-- The caller's place registers are as they were, and t1 is the frame's end.
record Restored (text : Text) (s : State) (size saved e : ℕ) : Type 0 where
  state : State
  steps : Steps text.flags s state
  has_text : HasText text state.mem
  code : CodeStands text state.pc leaving e
  end_is : state.regs t1 ≡ s.regs sp + size
  restores : (k : ℕ) → k < saved → state.regs (place_register k) ≡ load_bytes s.mem (s.regs sp + size - (8 + 4 * k)) 4
  others : (r : ℕ) → r ≢ t0 → r ≢ t1 → r ≢ t2 → ((k : ℕ) → k < saved → r ≢ place_register k) → state.regs r ≡ s.regs r
  mem : state.mem ≡ s.mem

place-register-above : (k : ℕ) → k < 11 → 8 < place_register k
place-register-above k below = place-above (place_register k) (register-is-place k)

-- the frame's end is in t1
record FindsEnd (text : Text) (s : State) (size e : ℕ) (rest : List Instr) : Type 0 where
  state : State
  steps : Steps text.flags s state
  code : CodeStands text state.pc rest e
  end_is : state.regs t1 ≡ s.regs sp + size
  others : (r : ℕ) → r ≢ t0 → r ≢ t1 → r ≢ t2 → state.regs r ≡ s.regs r
  mem : state.mem ≡ s.mem

finds-end : (text : Text) (s : State) (size e : ℕ) (rest : List Instr) → HasText text s.mem → s.regs sp + size < 2 ^ 32
    → CodeStands text s.pc (load_immediate t0 size ++ Add t1 sp t0 ∷ rest) e → e < 2 ^ 32 → FindsEnd text s size e rest
unfolding act
finds-end text s size e rest has high there low = record {
  state = two.state;
  steps = steps-then text.flags s one.state two.state one.steps two.steps;
  code = code-after text one.state e (one.state.pc + 4) t1 (s.regs sp + size) rest two code1.1;
  end_is = two.holds;
  others = λ r a b c. two.others r b c ∙ one.others r a c;
  mem = two.mem ∙ one.mem;
}
  where
    cut : (m : ℕ) × CodeStands text s.pc (load_immediate t0 size) m × CodeStands text m (Add t1 sp t0 ∷ rest) e
    cut = code_is_cut text s.pc e (load_immediate t0 size) (Add t1 sp t0 ∷ rest) there

    one : Computes text s cut.0 t0 size
    one =
        immediate-loads text s cut.0 t0 size has cut.1 (let le = code-le text cut.0 (Add t1 sp t0 ∷ rest) e cut.2 in
        omega (arith, le, low)) (omega arith) (omega (arith, high))

    code1 : CodeStands text one.state.pc (Add t1 sp t0 ∷ rest) e
    code1 = subst (λ a. CodeStands text a (Add t1 sp t0 ∷ rest) e) (sym one.pc) cut.2

    two : Computes text one.state (one.state.pc + 4) t1 (s.regs sp + size)
    two =
        first-computes text one.state e (Add t1 sp t0) rest t1 (s.regs sp + size) (subst (HasText text) (sym one.mem) has) code1 low (omega arith)
        (ap (λ n. next (give one.state t1 n))
        (ap₂ (λ a b. (a + b) % 2 ^ 32) (one.others sp (omega arith) (omega arith)) one.holds
        ∙ (let d : (s.regs sp + size) % 2 ^ 32 ≡ s.regs sp + size = omega (arith, high) in d)))

restored : (text : Text) (s : State) (size saved e : ℕ) → HasFrame text s size → IsFrameSize size saved → CodeStands text s.pc (give_frame size saved) e → e < 2 ^ 32
    → Restored text s size saved e
restored text s size saved e has frame there low = record {
  state = two.state;
  steps = steps-then text.flags s one.state two.state one.steps two.steps;
  has_text = subst (HasText text) (sym two.mem) has1;
  code = subst (λ a. CodeStands text a leaving e) (sym two.pc) cut.2;
  end_is = two.others t1 (λ k below same. let above = place-register-above k (omega (arith, below, few)) in omega (arith, above, same)) ∙ one.end_is;
  restores = λ k below. two.words k below ∙ ap (λ m. load_bytes m (top - (8 + 4 * k)) 4) one.mem;
  others = λ r a b c apart. two.others r apart ∙ one.others r a b c;
  mem = two.mem ∙ one.mem;
}
  where
    top : ℕ
    top = s.regs sp + size

    few : saved ≤ 11
    few = frame.saved_low

    holds : 4 + 4 * saved ≤ size
    holds = frame.holds

    one : FindsEnd text s size e (restore_places saved ++ leaving)
    one =
        finds-end text s size e (restore_places saved ++ leaving) has.has_text has.low
        (subst (λ c. CodeStands text s.pc c e) (append_assoc (load_immediate t0 size) (Add t1 sp t0 ∷ restore_places saved) leaving) there) low

    has1 : HasText text one.state.mem
    has1 = subst (HasText text) (sym one.mem) has.has_text

    cut : (m : ℕ) × CodeStands text one.state.pc (restore_places saved) m × CodeStands text m leaving e
    cut = code_is_cut text one.state.pc e (restore_places saved) leaving one.code

    two : Restores text top (let a = has.aligned in let b = frame.aligned in omega (arith, a, b)) has.low one.state cut.0 saved
    two =
        restores text top (let a = has.aligned in let b = frame.aligned in omega (arith, a, b)) has.low saved one.state cut.0 has1 one.end_is (let h = holds in
        omega (arith, h)) few
        (λ a from to. has.readable a (let h = holds in omega (arith, h, from)) to) cut.1 (let le = code-le text cut.0 leaving e cut.2 in omega (arith, le, low))

leaves : (text : Text) (s : State) (size saved back e : ℕ) → HasFrame text s size → IsFrameSize size saved → e < 2 ^ 32
    → load_bytes s.mem (s.regs sp + size - 4) 4 ≡ back → back < 2 ^ 32 → back % 2 ≡ 0
    → Restored text s size saved e → GivenBack text s size saved back
unfolding act
leaves text s size saved back e has frame low return-is small even h = record {
  state = final;
  steps =
      steps-then text.flags s h.state final h.steps
      (steps-then text.flags h.state one.state final one.steps
      (steps-then text.flags one.state two.state final two.steps last));
  pc = refl;
  sp_is = two.holds;
  restores = λ k below.
      let above = place-register-above k (omega (arith, below, few)) in
      two.others (place_register k) (λ q. omega (arith, above, q)) (λ q. omega (arith, above, q))
      ∙ one.others (place_register k) (λ q. omega (arith, above, q)) (λ q. omega (arith, above, q)) ∙ h.restores k below;
  others = λ r a b c d g apart. two.others r b g ∙ one.others r a g ∙ h.others r c d g apart;
  mem = two.mem ∙ one.mem ∙ h.mem;
}
  where
    top : ℕ
    top = s.regs sp + size

    few : saved ≤ 11
    few = frame.saved_low

    holds : 4 + 4 * saved ≤ size
    holds = frame.holds

    one : Computes text h.state (h.state.pc + 4) ra back
    one =
        first-computes text h.state e (Lw ra t1 (negative 4)) (Addi sp t1 0 ∷ Jalr x0 ra 0 ∷ []) ra back h.has_text h.code low (omega arith)
        (load-acts text.flags h.state ra t1 (negative 4) (top - 4)
        (ap (λ z. (z + negative 4) % 2 ^ 32) h.end_is ∙ word-place top 4 (let n = holds in omega (arith, n)) (omega arith) has.low)
        (let a = has.aligned in let b = frame.aligned in let n = holds in omega (arith, a, b, n))
        (flags_allow text.flags to_read (top - 4) 4 (λ j below. has.readable (top - 4 + j) (let n = holds in omega (arith, n)) (let n = holds in
        omega (arith, n, below))))
        ∙ ap (λ n. next (give h.state ra n)) (ap (λ m. load_bytes m (top - 4) 4) h.mem ∙ return-is))

    has1 : HasText text one.state.mem
    has1 = subst (HasText text) (sym one.mem) h.has_text

    code1 : CodeStands text one.state.pc (Addi sp t1 0 ∷ Jalr x0 ra 0 ∷ []) e
    code1 = code-after text h.state e (h.state.pc + 4) ra back (Addi sp t1 0 ∷ Jalr x0 ra 0 ∷ []) one h.code.1

    two : Computes text one.state (one.state.pc + 4) sp top
    two =
        first-computes text one.state e (Addi sp t1 0) (Jalr x0 ra 0 ∷ []) sp top has1 code1 low (omega arith)
        (ap (λ n. next (give one.state sp n))
        (ap (λ n. (n + 0) % 2 ^ 32) (one.others t1 (omega arith) (omega arith) ∙ h.end_is)
        ∙ (let high = has.low in let d : (s.regs sp + size + 0) % 2 ^ 32 ≡ s.regs sp + size = omega (arith, high) in d)))

    has2 : HasText text two.state.mem
    has2 = subst (HasText text) (sym two.mem) has1

    code2 : CodeStands text two.state.pc (Jalr x0 ra 0 ∷ []) e
    code2 = code-after text one.state e (one.state.pc + 4) sp top (Jalr x0 ra 0 ∷ []) two code1.1

    final : State
    final = at two.state back

    last : Steps text.flags two.state final
    last = return_leads text two.state back has2 code2.0 (two.others ra (omega arith) (omega arith) ∙ one.holds) small even

pub frame_is_given : FrameIsGiven
frame_is_given text s size saved back e has frame there low return-is small even =
    leaves text s size saved back e has frame low return-is small even (restored text s size saved e has frame there low)
