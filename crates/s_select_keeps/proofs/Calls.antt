-- Calls lead to their targets, and returns lead back.
use Rattle.std.proofs.Common.{◌≡◌, ℕ, ◌+◌, ◌-◌, ◌*◌, ◌%◌, ◌^◌, ◌<◌, refl, sym, ap, subst, ◌∙◌, arith}
use Rattle.rv_isa.specs.Registers.{x0, ra}
use Rattle.rv_isa.specs.WordParts.{upper_part, low_part}
use Rattle.rv_isa.specs.declared.instruction.Instr.TheVariants.{Auipc, Jalr}
use Rattle.rv_isa.proofs.lemmas.WordParts.{parts_make_offset}
use Rattle.rv_machine.specs.Machine.{State, next, act, give, jump, look, offset, after, set_register}
use Rattle.rv_layout.specs.Layout.{offset_to}
use Rattle.rv_machine.specs.Standing.{StandsAt}
use Rattle.s_select_keeps.specs.Steps.{Steps}
use Rattle.s_select_keeps.specs.Calls.{CallLeads, ReturnLeads}
use Rattle.s_select_keeps.proofs.Registers.{steps-then, step-to, set-same, set-other}
use Rattle.s_select_keeps.proofs.Branches.{offset_leads}

-- an even address is kept
even-address : (a : ℕ) → a % 2 ≡ 0 → a - a % 2 ≡ a
even-address a even = omega (arith, even)

offset-low : (from to : ℕ) → offset_to from to < 2 ^ 32
offset-low from to = omega arith

pub call_leads : CallLeads
unfolding act give jump
call_leads text s target b has there low high even = record {
  state = two;
  steps = steps-then text.flags s one two first second;
  pc = refl;
  return = set-same one.regs ra (after one.pc) (omega arith) ∙ back;
  others = λ r ne. set-other one.regs ra (after one.pc) r (omega arith) ne ∙ set-other s.regs ra part r (omega arith) ne;
  mem = refl;
}
  where
    v : ℕ
    v = offset_to s.pc target

    part : ℕ
    part = offset s.pc (upper_part v * 2 ^ 12)

    end : s.pc + 4 + 4 ≡ b
    end = there.1.1

    one : State
    one = give s ra part

    pc1 : after s.pc ≡ s.pc + 4
    pc1 = omega (arith, end, low)

    back : after (after s.pc) ≡ b
    back = ap (λ n. (n + 4) % 2 ^ 32) pc1 ∙ (let e : (s.pc + 4 + 4) % 2 ^ 32 ≡ b = omega (arith, end, low) in e)

    first : Steps text.flags s one
    first = step-to text s one (Auipc ra (upper_part v)) has there.0 refl

    lands : offset part (low_part v) ≡ target
    lands = parts_make_offset s.pc v (offset-low s.pc target) ∙ offset_leads s.pc target (omega (arith, end, low)) high

    two : State
    two = record { pc = target; regs = set_register one.regs ra (after one.pc); mem = s.mem }

    goes : offset (look one.regs ra) (low_part v) - offset (look one.regs ra) (low_part v) % 2 ≡ target
    goes = ap (λ n. n - n % 2) (ap (λ n. offset n (low_part v)) (set-same s.regs ra part (omega arith)) ∙ lands) ∙ even-address target even

    second : Steps text.flags one two
    second =
        step-to text one two (Jalr ra ra (low_part v)) has (subst (λ a. StandsAt text a (Jalr ra ra (low_part v))) (sym pc1) there.1.0)
        (ap (λ a. next (record { pc = a; regs = set_register one.regs ra (after one.pc); mem = s.mem })) goes)

pub return_leads : ReturnLeads
unfolding act jump
return_leads text s back has there is low even =
    step-to text s (record { pc = back; regs = s.regs; mem = s.mem }) (Jalr x0 ra 0) has there (ap (λ a. next (record { pc = a; regs = s.regs; mem = s.mem })) goes)
  where
    goes : offset (look s.regs ra) 0 - offset (look s.regs ra) 0 % 2 ≡ back
    goes = ap (λ n. n - n % 2) (ap (λ n. (n + 0) % 2 ^ 32) is ∙ (let e : (back + 0) % 2 ^ 32 ≡ back = omega (arith, low) in e)) ∙ even-address back even
