-- The stub that writes a byte.
use Rattle.std.proofs.Common.{◌≡◌, ◌≢◌, ◌⊎◌, ℕ, ◌+◌, ◌*◌, ◌%◌, ◌^◌, ◌<◌, ◌≤◌, List, [], ◌∷◌, refl, sym, ap, ap₂, subst, ◌∙◌, arith, inl, inr}
use Rattle.std.proofs.lemmas.Bool.{cases_lt}
use Rattle.rv_isa.specs.Calls.{write_call}
use Rattle.rv_isa.specs.Registers.{x0, ra, t0, a0}
use Rattle.rv_isa.specs.Words.{word_of}
use Rattle.rv_isa.specs.declared.instruction.Instr.{Instr}
use Rattle.rv_isa.specs.declared.instruction.Instr.TheVariants.{Sb, Ecall, Jalr}
use Rattle.rv_isa.proofs.lemmas.EncodedDecodes.{encoded_decodes}
use Rattle.rv_machine.specs.Laws.{Reaches}
use Rattle.rv_machine.specs.Machine.{State, next, put, act, call, give, look, offset, after, access}
use Rattle.rv_machine.specs.Memory.{Bytes, load_bytes, store_bytes, to_read, to_write}
use Rattle.rv_machine.specs.Standing.{HasText, StandsAt, CodeStands}
use Rattle.rv_machine.proofs.lemmas.RunLaws.{reaches_onwards, step_writes}
use Rattle.rv_machine.proofs.lemmas.Standing.{fetched-there, code_is_cut}
use Rattle.rv_machine.proofs.lemmas.Stores.{stored_is_loaded, store_leaves_others}
use Rattle.rv_layout.specs.Sequences.{load_address}
use Rattle.s_select_keeps.specs.Steps.{Steps}
use Rattle.s_select_keeps.specs.Stubs.{PutStubWrites}
use Rattle.s_select_keeps.proofs.Calls.{return_leads}
use Rattle.s_select_keeps.proofs.Locations.{kept-apart, kept-argument}
use Rattle.s_select_keeps.proofs.Registers.{Computes, steps-then, step-to, set-other, code-le, address-loads}
use Rattle.s_select_keeps.proofs.Stubs.{setting, access-byte, text-keeps, Set, sets}

abbrev calling : List Instr
calling = Ecall ∷ Jalr x0 ra 0 ∷ []

abbrev setting_put : List Instr
setting_put = setting 1 write_call calling

-- the byte that is stored
stored-byte : (mem : Bytes) (a w : ℕ) → store_bytes mem a w 1 a ≡ w % 256
unfolding load_bytes
stored-byte mem a w =
    let all : store_bytes mem a w 1 a + 256 * 0 ≡ w % 2 ^ (8 * 1) = stored_is_loaded mem a w 1 in
    omega (arith, all)

pub stored-elsewhere : (mem : Bytes) (buffer w a : ℕ) → a ≢ buffer → store_bytes mem buffer w 1 a ≡ mem a
stored-elsewhere mem buffer w a ne = by (cases_lt a buffer)
  where
    by : (a < buffer) ⊎ (buffer ≤ a) → store_bytes mem buffer w 1 a ≡ mem a
    by (inl less) = store_leaves_others mem buffer w 1 a (inl (omega (arith, less)))
    by (inr more) = store_leaves_others mem buffer w 1 a (inr (omega (arith, more, ne)))

pub put_stub_writes : PutStubWrites
unfolding act call give
put_stub_writes text s buffer back word e input called there low is = record {
  state = final;
  count = before.count + 1 + last.count;
  reaches =
      reaches_onwards text.flags (before.count + 1) last.count s answered final input (word % 256 ∷ []) input [] input
      (reaches_onwards text.flags before.count 1 s third.state answered input [] input (word % 256 ∷ []) input (before.reaches input) written) (last.reaches input);
  pc = refl;
  kept = λ r side.
      set-other third.state.regs a0 1 r (omega arith) (kept-argument r a0 side (omega arith) (omega arith))
      ∙ third.kept r side ∙ first.others r (kept-apart r 5 side (omega arith) (omega arith)) (kept-apart r 7 side (omega arith) (omega arith));
  mem = third.mem ∙ ap (λ m. store_bytes m buffer word 1) first.mem;
}
  where
    cut : (c : ℕ) × CodeStands text s.pc (load_address t0 buffer) c × CodeStands text c (Sb t0 a0 0 ∷ setting_put) e
    cut = code_is_cut text s.pc e (load_address t0 buffer) (Sb t0 a0 0 ∷ setting_put) there

    below : cut.0 + 4 ≤ e
    below = code-le text (cut.0 + 4) setting_put e cut.2.1

    first : Computes text s cut.0 t0 buffer
    first = address-loads text s cut.0 t0 buffer called.has_text cut.1 (let le = below in omega (arith, le, low)) (omega arith) called.buffer_low

    has1 : HasText text first.state.mem
    has1 = subst (HasText text) (sym first.mem) called.has_text

    stored : State
    stored = record { pc = after first.state.pc; regs = first.state.regs; mem = store_bytes first.state.mem buffer word 1 }

    word1 : first.state.regs a0 ≡ word
    word1 = first.others a0 (omega arith) (omega arith) ∙ is

    place : offset (look first.state.regs t0) 0 ≡ buffer
    place = ap (λ n. (n + 0) % 2 ^ 32) first.holds ∙ (let small = called.buffer_low in let p : (buffer + 0) % 2 ^ 32 ≡ buffer = omega (arith, small) in p)

    stores : act text.flags (Sb t0 a0 0) first.state ≡ next stored
    stores =
        ap₂ (λ n w. access text.flags to_write 1 n first.state
        (next (record { pc = after first.state.pc; regs = first.state.regs; mem = store_bytes first.state.mem n w 1 }))) place word1
        ∙ access-byte text.flags to_write buffer first.state (next stored) called.writable

    second : Steps text.flags first.state stored
    second = step-to text first.state stored (Sb t0 a0 0) has1 (subst (λ a. StandsAt text a (Sb t0 a0 0)) (sym first.pc) cut.2.0) stores

    has2 : HasText text stored.mem
    has2 = text-keeps text first.state.mem stored.mem buffer has1 called.writable (λ a ne. stored-elsewhere first.state.mem buffer word a ne)

    pc2 : stored.pc ≡ cut.0 + 4
    pc2 = ap (λ n. (n + 4) % 2 ^ 32) first.pc ∙ (let le = below in let p : (cut.0 + 4) % 2 ^ 32 ≡ cut.0 + 4 = omega (arith, le, low) in p)

    third : Set text stored 1 write_call buffer calling e
    third =
        sets text stored 1 write_call buffer calling e has2 (subst (λ a. CodeStands text a setting_put e) (sym pc2) cut.2.1) low first.holds called.buffer_low
        (omega arith) (omega arith)

    before : Steps text.flags s third.state
    before = steps-then text.flags s first.state third.state first.steps (steps-then text.flags first.state stored third.state second third.steps)

    has3 : HasText text third.state.mem
    has3 = subst (HasText text) (sym third.mem) has2

    answered : State
    answered = give third.state a0 1

    byte : third.state.mem buffer ≡ word % 256
    byte = ap (λ m. m buffer) third.mem ∙ stored-byte first.state.mem buffer word

    calls : act text.flags Ecall third.state ≡ put (word % 256) answered
    calls =
        rw (third.r17, third.r10, third.r12)
        (ap (λ n. access text.flags to_read 1 n third.state (put (third.state.mem n) answered)) third.r11
        ∙ access-byte text.flags to_read buffer third.state (put (third.state.mem buffer) answered) called.readable
        ∙ ap (λ n. put n answered) byte)

    written : Reaches text.flags 1 third.state input (word % 256 ∷ []) answered input
    written =
        step_writes text.flags third.state answered (word_of Ecall) Ecall (word % 256) input (fetched-there text third.state Ecall has3 third.code.0)
        (encoded_decodes Ecall third.code.0.fits) calls

    pc3 : answered.pc ≡ third.state.pc + 4
    pc3 = let end : third.state.pc + 4 + 4 ≡ e = third.code.1.1 in omega (arith, end, low)

    final : State
    final = record { pc = back; regs = answered.regs; mem = answered.mem }

    returns : answered.regs ra ≡ back
    returns = set-other third.state.regs a0 1 ra (omega arith) (omega arith) ∙ third.return ∙ first.others ra (omega arith) (omega arith) ∙ called.return

    last : Steps text.flags answered final
    last = return_leads text answered back has3 (subst (λ a. StandsAt text a (Jalr x0 ra 0)) (sym pc3) third.code.1.0) returns called.low called.even
