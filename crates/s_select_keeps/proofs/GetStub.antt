-- The stub that reads a byte.
use Rattle.std.proofs.Common.{◌≡◌, ℕ, ◌+◌, ◌-◌, ◌*◌, ◌%◌, ◌^◌, ◌<◌, ◌≤◌, ◌==◌, true, false, List, [], ◌∷◌, Some, None, refl, sym, ap, subst, ◌∙◌, arith, eq-eqb}
use Rattle.std.proofs.lemmas.Bool.{ne_eqb}
use Rattle.rv_isa.specs.Calls.{read_call}
use Rattle.rv_isa.specs.Registers.{x0, ra, t0, a0, a1}
use Rattle.rv_isa.specs.Words.{word_of}
use Rattle.rv_isa.specs.declared.instruction.Instr.{Instr}
use Rattle.rv_isa.specs.declared.instruction.Instr.TheVariants.{Beq, Lbu, Addi, Ecall, Jalr}
use Rattle.rv_isa.proofs.lemmas.EncodedDecodes.{encoded_decodes}
use Rattle.rv_machine.specs.Laws.{Reaches}
use Rattle.rv_machine.specs.Machine.{State, next, get, act, call, give, look, offset, after, access, received}
use Rattle.rv_machine.specs.Memory.{load_bytes, put_at, to_read, to_write}
use Rattle.rv_machine.specs.Standing.{Text, HasText, StandsAt, CodeStands}
use Rattle.rv_machine.proofs.lemmas.RunLaws.{reaches_onwards, step_reads, step_reads_end}
use Rattle.rv_machine.proofs.lemmas.Standing.{fetched-there, code_is_cut}
use Rattle.rv_layout.specs.Sequences.{load_address, read_answer, get_stub}
use Rattle.s_select_keeps.specs.Relation.{IsKept}
use Rattle.s_select_keeps.specs.Steps.{Steps}
use Rattle.s_select_keeps.specs.Stubs.{FromStub, StubIsCalled, GetStubReads}
use Rattle.s_select_keeps.proofs.Calls.{return_leads}
use Rattle.s_select_keeps.proofs.Locations.{kept-apart, kept-argument}
use Rattle.s_select_keeps.proofs.Registers.{Computes, steps-then, step-to, code-le, address-loads}
use Rattle.s_select_keeps.proofs.Stubs.{setting, access-byte, text-keeps, Set, sets}

abbrev asking : List Instr
asking = Ecall ∷ read_answer

-- the stub has come to its call
record Asks (text : Text) (s : State) (buffer e : ℕ) : Type 0 where
  state : State
  steps : Steps text.flags s state
  has_text : HasText text state.mem
  code : CodeStands text state.pc asking e
  place : state.regs a1 ≡ buffer
  return : state.regs ra ≡ s.regs ra
  kept : (r : ℕ) → IsKept r → state.regs r ≡ s.regs r
  mem : state.mem ≡ s.mem
  asks : act text.flags Ecall state ≡ get (received state)

comes : (text : Text) (s : State) (buffer back e : ℕ) → StubIsCalled text s buffer back → CodeStands text s.pc (get_stub buffer) e → e < 2 ^ 32 → Asks text s buffer e
unfolding act call
comes text s buffer back e called there low = record {
  state = second.state;
  steps = steps-then text.flags s first.state second.state first.steps second.steps;
  has_text = subst (HasText text) (sym second.mem) has1;
  code = second.code;
  place = second.r11;
  return = second.return ∙ first.others ra (omega arith) (omega arith);
  kept = λ r side. second.kept r side ∙ first.others r (kept-apart r 5 side (omega arith) (omega arith)) (kept-apart r 7 side (omega arith) (omega arith));
  mem = second.mem ∙ first.mem;
  asks =
      rw (second.r17, second.r10, second.r12)
      (ap (λ n. access text.flags to_write 1 n second.state (get (received second.state))) second.r11
      ∙ access-byte text.flags to_write buffer second.state (get (received second.state)) called.writable);
}
  where
    cut : (c : ℕ) × CodeStands text s.pc (load_address t0 buffer) c × CodeStands text c (setting 0 read_call asking) e
    cut = code_is_cut text s.pc e (load_address t0 buffer) (setting 0 read_call asking) there

    below : cut.0 ≤ e
    below = code-le text cut.0 (setting 0 read_call asking) e cut.2

    first : Computes text s cut.0 t0 buffer
    first = address-loads text s cut.0 t0 buffer called.has_text cut.1 (let le = below in omega (arith, le, low)) (omega arith) called.buffer_low

    has1 : HasText text first.state.mem
    has1 = subst (HasText text) (sym first.mem) called.has_text

    second : Set text first.state 0 read_call buffer asking e
    second =
        sets text first.state 0 read_call buffer asking e has1 (subst (λ a. CodeStands text a (setting 0 read_call asking) e) (sym first.pc) cut.2) low first.holds
        called.buffer_low
        (omega arith) (omega arith)

module _ (text : Text) (s : State) (buffer back e : ℕ) (called : StubIsCalled text s buffer back) (h : Asks text s buffer e) (low : e < 2 ^ 32) where
  abbrev p : ℕ
  p = h.state.pc

  end : p + 4 + 4 + 4 + 4 + 4 + 4 ≡ e
  end = h.code.1.1.1.1.1.1

  next-pc : (a b : ℕ) → a ≡ b → b + 4 ≤ p + 20 → after a ≡ b + 4
  next-pc a b same within = ap (λ n. (n + 4) % 2 ^ 32) same ∙ (let last = end in let x : (b + 4) % 2 ^ 32 ≡ b + 4 = omega (arith, last, low, within) in x)

  -- ---- a byte

  module _ (b : ℕ) (input : List ℕ) where
    u1 : State
    u1 = received h.state (Some b)

    u2 : State
    u2 = record { pc = after u1.pc; regs = u1.regs; mem = u1.mem }

    u3 : State
    u3 = give u2 a0 b

    u4 : State
    u4 = record { pc = back; regs = u3.regs; mem = u3.mem }

    pc1 : u1.pc ≡ p + 4
    unfolding u1 give
    pc1 = next-pc p p refl (omega arith)

    pc2 : u2.pc ≡ p + 4 + 4
    unfolding u2
    pc2 = next-pc u1.pc (p + 4) pc1 (omega arith)

    pc3 : u3.pc ≡ p + 4 + 4 + 4
    unfolding u3 give
    pc3 = next-pc u2.pc (p + 4 + 4) pc2 (omega arith)

    mem1 : u1.mem ≡ put_at h.state.mem buffer b
    unfolding u1 give
    mem1 = ap (λ a. put_at h.state.mem a b) h.place

    has1 : HasText text u1.mem
    has1 =
        text-keeps text h.state.mem u1.mem buffer h.has_text called.writable (λ a ne. ap (λ m. m a) mem1 ∙ (let other : (a == buffer) ≡ false = ne_eqb a buffer ne in
        rw other refl))

    reads : Reaches text.flags 1 h.state (b ∷ input) [] u1 input
    unfolding u1
    reads = step_reads text.flags h.state (word_of Ecall) Ecall (received h.state) b input (fetched-there text h.state Ecall h.has_text h.code.0)
        (encoded_decodes Ecall h.code.0.fits) h.asks

    goes-on : Steps text.flags u1 u2
    unfolding act u1 u2 give
    goes-on = step-to text u1 u2 (Beq a0 x0 12) has1 (subst (λ a. StandsAt text a (Beq a0 x0 12)) (sym pc1) h.code.1.0) refl

    place : offset (look u2.regs a1) 0 ≡ buffer
    unfolding u2 u1 give
    place = ap (λ n. (n + 0) % 2 ^ 32) h.place ∙ (let small = called.buffer_low in let x : (buffer + 0) % 2 ^ 32 ≡ buffer = omega (arith, small) in x)

    byte : load_bytes u2.mem buffer 1 ≡ b
    unfolding load_bytes u2
    byte =
        let same : (buffer == buffer) ≡ true = eq-eqb buffer buffer refl in
        ap (λ m. m buffer + 256 * 0) mem1 ∙ rw same (let x : b + 256 * 0 ≡ b = omega arith in x)

    loads : Steps text.flags u2 u3
    unfolding act u2 u3
    loads =
        step-to text u2 u3 (Lbu a0 a1 0) has1 (subst (λ a. StandsAt text a (Lbu a0 a1 0)) (sym pc2) h.code.1.1.0)
        (ap (λ n. access text.flags to_read 1 n u2 (next (give u2 a0 (load_bytes u2.mem n 1)))) place
        ∙ access-byte text.flags to_read buffer u2 (next (give u2 a0 (load_bytes u2.mem buffer 1))) called.readable
        ∙ ap (λ n. next (give u2 a0 n)) byte)

    returns : u3.regs ra ≡ back
    unfolding u3 u2 u1 give
    returns = h.return ∙ called.return

    last : Steps text.flags u3 u4
    unfolding u3 u4 u2 give
    last = return_leads text u3 back has1 (subst (λ a. StandsAt text a (Jalr x0 ra 0)) (sym pc3) h.code.1.1.1.0) returns called.low called.even

    kept : (r : ℕ) → IsKept r → u4.regs r ≡ s.regs r
    unfolding u4 u3 u2 u1 give
    kept r side =
        let ne : (r == a0) ≡ false = ne_eqb r a0 (kept-argument r a0 side (omega arith) (omega arith)) in
        rw ne (h.kept r side)

    mem4 : u4.mem ≡ put_at s.mem buffer b
    unfolding u4 u3 u2 give
    mem4 = mem1 ∙ ap (λ m. put_at m buffer b) h.mem

    value : u4.regs a0 ≡ b
    unfolding u4 u3 give
    value = refl

    steps : Steps text.flags u1 u4
    steps = steps-then text.flags u1 u2 u4 goes-on (steps-then text.flags u2 u3 u4 loads last)

    byte-read : (g : FromStub text s back (put_at s.mem buffer b) (b ∷ input) [] input) × (g.state.regs a0 ≡ b)
    unfolding u4
    byte-read = (
      record {
        state = u4;
        count = h.steps.count + (1 + steps.count);
        reaches =
            reaches_onwards text.flags h.steps.count (1 + steps.count) s h.state u4 (b ∷ input) [] (b ∷ input) [] input (h.steps.reaches (b ∷ input))
            (reaches_onwards text.flags 1 steps.count h.state u1 u4 (b ∷ input) [] input [] input reads (steps.reaches input));
        pc = refl;
        kept = kept;
        mem = mem4;
      },
      value,
    )

  -- ---- the end

  v1 : State
  v1 = received h.state None

  v2 : State
  v2 = record { pc = offset v1.pc 12; regs = v1.regs; mem = v1.mem }

  v3 : State
  v3 = give v2 a0 (2 ^ 32 - 1)

  v4 : State
  v4 = record { pc = back; regs = v3.regs; mem = v3.mem }

  at1 : v1.pc ≡ p + 4
  unfolding v1 give
  at1 = next-pc p p refl (omega arith)

  at2 : v2.pc ≡ p + 4 + 4 + 4 + 4
  unfolding v2
  at2 = ap (λ n. (n + 12) % 2 ^ 32) at1 ∙ (let last = end in let x : (p + 4 + 12) % 2 ^ 32 ≡ p + 4 + 4 + 4 + 4 = omega (arith, last, low) in x)

  at3 : v3.pc ≡ p + 4 + 4 + 4 + 4 + 4
  unfolding v3 give
  at3 = next-pc v2.pc (p + 4 + 4 + 4 + 4) at2 (omega arith)

  at-end : Reaches text.flags 1 h.state [] [] v1 []
  unfolding v1
  at-end = step_reads_end text.flags h.state (word_of Ecall) Ecall (received h.state) (fetched-there text h.state Ecall h.has_text h.code.0)
      (encoded_decodes Ecall h.code.0.fits) h.asks

  skips : Steps text.flags v1 v2
  unfolding act v1 v2 give
  skips = step-to text v1 v2 (Beq a0 x0 12) h.has_text (subst (λ a. StandsAt text a (Beq a0 x0 12)) (sym at1) h.code.1.0) refl

  sets-end : Steps text.flags v2 v3
  unfolding act v2 v1 v3 give
  sets-end = step-to text v2 v3 (Addi a0 x0 (2 ^ 32 - 1)) h.has_text (subst (λ a. StandsAt text a (Addi a0 x0 (2 ^ 32 - 1))) (sym at2) h.code.1.1.1.1.0) refl

  comes-back : v3.regs ra ≡ back
  unfolding v3 v2 v1 give
  comes-back = h.return ∙ called.return

  last-end : Steps text.flags v3 v4
  unfolding v3 v4 v2 v1 give
  last-end = return_leads text v3 back h.has_text (subst (λ a. StandsAt text a (Jalr x0 ra 0)) (sym at3) h.code.1.1.1.1.1.0) comes-back called.low called.even

  kept-end : (r : ℕ) → IsKept r → v4.regs r ≡ s.regs r
  unfolding v4 v3 v2 v1 give
  kept-end r side =
      let ne : (r == a0) ≡ false = ne_eqb r a0 (kept-argument r a0 side (omega arith) (omega arith)) in
      rw ne (h.kept r side)

  mem-end : v4.mem ≡ s.mem
  unfolding v4 v3 v2 v1 give
  mem-end = h.mem

  value-end : v4.regs a0 ≡ 2 ^ 32 - 1
  unfolding v4 v3 give
  value-end = refl

  steps-end : Steps text.flags v1 v4
  steps-end = steps-then text.flags v1 v2 v4 skips (steps-then text.flags v2 v3 v4 sets-end last-end)

  end-read : (g : FromStub text s back s.mem [] [] []) × (g.state.regs a0 ≡ 2 ^ 32 - 1)
  unfolding v4
  end-read = (
    record {
      state = v4;
      count = h.steps.count + (1 + steps-end.count);
      reaches =
          reaches_onwards text.flags h.steps.count (1 + steps-end.count) s h.state v4 [] [] [] [] [] (h.steps.reaches [])
          (reaches_onwards text.flags 1 steps-end.count h.state v1 v4 [] [] [] [] [] at-end (steps-end.reaches []));
      pc = refl;
      kept = kept-end;
      mem = mem-end;
    },
    value-end,
  )

pub get_stub_reads : GetStubReads
get_stub_reads = record {
  byte = λ text s buffer back b e input called there low. byte-read text s buffer back e called (comes text s buffer back e called there low) low b input;
  end = λ text s buffer back e called there low. end-read text s buffer back e called (comes text s buffer back e called there low) low;
}
