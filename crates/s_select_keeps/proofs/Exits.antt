-- The template of an exit ends the run.
use Rattle.std.proofs.Common.{◌≡◌, ℕ, ◌+◌, ◌%◌, ◌^◌, ◌<◌, [], ◌∷◌, sym, ap, subst, ◌∙◌, arith}
use Rattle.val_core.specs.declared.values.Value.TheVariants.{Num}
use Rattle.rv_isa.specs.Calls.{exit_call}
use Rattle.rv_isa.specs.Registers.{x0, a0, a7}
use Rattle.rv_isa.specs.Words.{word_of}
use Rattle.rv_isa.specs.declared.instruction.Instr.TheVariants.{Addi, Ecall}
use Rattle.rv_isa.proofs.lemmas.EncodedDecodes.{encoded_decodes}
use Rattle.rv_machine.specs.Machine.{State, next, stop, exit, act, call, give}
use Rattle.rv_machine.specs.Run.{after_output}
use Rattle.rv_machine.proofs.lemmas.RunLaws.{run_goes_on, step_ends}
use Rattle.s_select.specs.Operands.{location_of, get}
use Rattle.rv_machine.specs.Standing.{Text, HasText, StandsAt, CodeStands}
use Rattle.s_select_keeps.specs.Relation.{Shows}
use Rattle.s_select_keeps.specs.Steps.{Steps, Exits}
use Rattle.s_select_keeps.specs.Branches.{ExitIsDone}
use Rattle.rv_machine.proofs.lemmas.Standing.{fetched-there, code_is_cut}
use Rattle.s_select_keeps.proofs.Registers.{Computes, steps-then, code-le, first-computes, code-after}
use Rattle.s_select_keeps.proofs.Locations.{location-fits}
use Rattle.s_select_keeps.proofs.Operands.{get-done}

-- the environment call, where the registers say so
pub ends : (text : Text) (s t : State) (w : ℕ) → Steps text.flags s t → HasText text t.mem → StandsAt text t.pc Ecall → t.regs a7 ≡ exit_call → t.regs a0 ≡ w
    → Exits text.flags s (w % 256)
unfolding act call
ends text s t w steps has there is status = record {
  count = steps.count + 1;
  runs = λ input.
      run_goes_on text.flags steps.count 1 s t input [] input (steps.reaches input)
      ∙ ap (after_output []) (step_ends text.flags 0 t (word_of Ecall) Ecall (exit (w % 256)) input (fetched-there text t Ecall has there)
      (encoded_decodes Ecall there.fits) acts);
}
  where
    acts : act text.flags Ecall t ≡ stop (exit (w % 256))
    acts = rw is (ap (λ n. stop (exit (n % 256))) status)

pub exit_is_done : ExitIsDone
unfolding act
exit_is_done text f q s words rep a w b below is there low =
    ends text s two.state w (steps-then text.flags s one.state two.state one.steps two.steps) has2 code2.0 two.holds status
  where
    cut : (c : ℕ) × CodeStands text s.pc (get a0 (location_of f.temporaries a)) c × CodeStands text c (Addi a7 x0 exit_call ∷ Ecall ∷ []) b
    cut = code_is_cut text s.pc b (get a0 (location_of f.temporaries a)) (Addi a7 x0 exit_call ∷ Ecall ∷ []) there

    small : cut.0 < 2 ^ 32
    small = let le = code-le text cut.0 (Addi a7 x0 exit_call ∷ Ecall ∷ []) b cut.2 in omega (arith, le, low)

    got : (x : ℕ) × Shows f.bases (q.names a) x × Computes text s cut.0 a0 x
    got = get-done text f words s cut.0 a0 (location_of f.temporaries a) (q.names a) rep.has_text rep.stack (location-fits f a below) cut.1 small (omega arith) (rep.places a below)

    one : Computes text s cut.0 a0 got.0
    one = got.2

    has1 : HasText text one.state.mem
    has1 = subst (HasText text) (sym one.mem) rep.has_text

    two : Computes text one.state (one.state.pc + 4) a7 exit_call
    two =
        first-computes text one.state b (Addi a7 x0 exit_call) (Ecall ∷ []) a7 exit_call has1
        (subst (λ c. CodeStands text c (Addi a7 x0 exit_call ∷ Ecall ∷ []) b) (sym one.pc) cut.2) low (omega arith)
        (ap (λ n. next (give one.state a7 n)) (let e : (0 + exit_call) % 2 ^ 32 ≡ exit_call = omega arith in e))

    has2 : HasText text two.state.mem
    has2 = subst (HasText text) (sym two.mem) has1

    code2 : CodeStands text two.state.pc (Ecall ∷ []) b
    code2 =
        code-after text one.state b (one.state.pc + 4) a7 exit_call (Ecall ∷ []) two
        (subst (λ c. CodeStands text (c + 4) (Ecall ∷ []) b) (sym one.pc) cut.2.1)

    status : two.state.regs a0 ≡ w
    status =
        two.others a0 (omega arith) (omega arith) ∙ one.holds
        ∙ (let h : Shows f.bases (Num w) got.0 = subst (λ v. Shows f.bases v got.0) is got.1 in h.0)
