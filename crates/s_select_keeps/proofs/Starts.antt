-- The start code of a program.
use Rattle.std.proofs.Common.{◌≡◌, ℕ, ◌+◌, ◌-◌, ◌/◌, ◌%◌, ◌^◌, List, [], ◌∷◌, ◌++◌, refl, sym, ap, ap₂, subst, ◌∙◌, arith, lit<}
use Rattle.elf_file.specs.Image.{text_at, stack_size}
use Rattle.rv_isa.specs.Calls.{exit_call}
use Rattle.rv_isa.specs.Registers.{x0, sp, t0, s0, a0, a7}
use Rattle.rv_isa.specs.declared.instruction.Instr.{Instr}
use Rattle.rv_isa.specs.declared.instruction.Instr.TheVariants.{Lui, Addi, Add, Ecall}
use Rattle.rv_machine.specs.Machine.{next, act, give}
use Rattle.rv_machine.specs.Standing.{Text, HasText, CodeStands}
use Rattle.rv_machine.proofs.lemmas.Standing.{code_is_cut}
use Rattle.rv_layout.specs.Layout.{offset_to}
use Rattle.rv_layout.specs.Sequences.{load_address, call, start_code}
use Rattle.s_select_keeps.specs.Calls.{Called}
use Rattle.s_select_keeps.specs.Starts.{main_returns, MainIsCalled, MainExits}
use Rattle.s_select_keeps.proofs.Calls.{call_leads}
use Rattle.s_select_keeps.proofs.Exits.{ends}
use Rattle.s_select_keeps.proofs.Registers.{Computes, steps-then, first-computes, code-after, address-loads}

-- what follows the base of the stack, and what follows the call
abbrev calling : (main : ℕ) → List Instr
calling main = Lui t0 (stack_size / 2 ^ 12) ∷ Add sp s0 t0 ∷ call (main - (text_at + 16))

abbrev exiting : List Instr
exiting = Addi a7 x0 exit_call ∷ Ecall ∷ []

-- the call stands, and after it the exit
parts : (text : Text) (stack main e : ℕ) → CodeStands text text_at (start_code stack main) e
    → CodeStands text text_at (load_address s0 stack ++ calling main) main_returns × CodeStands text main_returns exiting e
parts text stack main e there =
    let cut = code_is_cut text text_at e (load_address s0 stack ++ calling main) exiting there in
    let end : cut.0 ≡ main_returns = sym cut.1.1.1.1.1.1.1 in (
      subst (λ m. CodeStands text text_at (load_address s0 stack ++ calling main) m) end cut.1,
      subst (λ m. CodeStands text m exiting e) end cut.2,
    )

pub main_is_called : MainIsCalled
unfolding act
main_is_called text s stack main e has here there low above high even = record {
  state = last.state;
  steps =
      steps-then text.flags s one.state last.state one.steps
      (steps-then text.flags one.state two.state last.state two.steps (steps-then text.flags two.state three.state last.state three.steps last.steps));
  pc = last.pc;
  base = last.others s0 (omega arith) ∙ three.others s0 (omega arith) (omega arith) ∙ two.others s0 (omega arith) (omega arith) ∙ one.holds;
  top = last.others sp (omega arith) ∙ three.holds;
  return = last.return;
  mem = last.mem ∙ three.mem ∙ two.mem ∙ one.mem;
}
  where
    code : CodeStands text text_at (load_address s0 stack ++ calling main) main_returns
    code = (parts text stack main e there).0

    first : CodeStands text s.pc (load_address s0 stack) (text_at + 8)
    first = subst (λ a. CodeStands text a (load_address s0 stack) (text_at + 8)) (sym here) (code.0, (code.1.0, refl))

    one : Computes text s (text_at + 8) s0 stack
    one = address-loads text s (text_at + 8) s0 stack has first (lit< tt) (omega arith) (omega (arith, low))

    has1 : HasText text one.state.mem
    has1 = subst (HasText text) (sym one.mem) has

    code1 : CodeStands text one.state.pc (calling main) main_returns
    code1 = subst (λ a. CodeStands text a (calling main) main_returns) (sym one.pc) code.1.1

    two : Computes text one.state (one.state.pc + 4) t0 stack_size
    two = first-computes text one.state main_returns (Lui t0 (stack_size / 2 ^ 12)) (Add sp s0 t0 ∷ call (main - (text_at + 16))) t0 stack_size has1 code1 (lit< tt)
        (omega arith) refl

    has2 : HasText text two.state.mem
    has2 = subst (HasText text) (sym two.mem) has1

    code2 : CodeStands text two.state.pc (Add sp s0 t0 ∷ call (main - (text_at + 16))) main_returns
    code2 = code-after text one.state main_returns (one.state.pc + 4) t0 stack_size (Add sp s0 t0 ∷ call (main - (text_at + 16))) two code1.1

    three : Computes text two.state (two.state.pc + 4) sp (stack + stack_size)
    three =
        first-computes text two.state main_returns (Add sp s0 t0) (call (main - (text_at + 16))) sp (stack + stack_size) has2 code2 (lit< tt) (omega arith)
        (ap (λ n. next (give two.state sp n))
        (ap₂ (λ a b. (a + b) % 2 ^ 32) (two.others s0 (omega arith) (omega arith) ∙ one.holds) two.holds
        ∙ (let d : (stack + stack_size) % 2 ^ 32 ≡ stack + stack_size = omega (arith, low) in d)))

    has3 : HasText text three.state.mem
    has3 = subst (HasText text) (sym three.mem) has2

    at3 : three.state.pc ≡ text_at + 16
    at3 = three.pc ∙ ap (λ n. n + 4) (two.pc ∙ ap (λ n. n + 4) one.pc)

    code3 : CodeStands text three.state.pc (call (main - (text_at + 16))) main_returns
    code3 = code-after text two.state main_returns (two.state.pc + 4) sp (stack + stack_size) (call (main - (text_at + 16))) three code2.1

    distance : main - (text_at + 16) ≡ offset_to three.state.pc main
    distance = (let d : main - (text_at + 16) ≡ (main + 2 ^ 32 - (text_at + 16)) % 2 ^ 32 = omega (arith, above, high) in d) ∙ ap (λ a. offset_to a main) (sym at3)

    last : Called text three.state main main_returns
    last = call_leads text three.state main main_returns has3 (subst (λ d. CodeStands text three.state.pc (call d) main_returns) distance code3) (lit< tt) high even

pub main_exits : MainExits
unfolding act
main_exits text s stack main e v has here there is =
    ends text s one.state v one.steps (subst (HasText text) (sym one.mem) has) code1.0 one.holds (one.others a0 (omega arith) (omega arith) ∙ is)
  where
    code : CodeStands text s.pc exiting e
    code = subst (λ a. CodeStands text a exiting e) (sym here) (parts text stack main e there).1

    end : e ≡ main_returns + 8
    end = sym (parts text stack main e there).1.1.1

    one : Computes text s (s.pc + 4) a7 exit_call
    one =
        first-computes text s e (Addi a7 x0 exit_call) (Ecall ∷ []) a7 exit_call has code (let last = end in omega (arith, last)) (omega arith)
        (ap (λ n. next (give s a7 n)) (let d : (0 + exit_call) % 2 ^ 32 ≡ exit_call = omega arith in d))

    code1 : CodeStands text one.state.pc (Ecall ∷ []) e
    code1 = code-after text s e (s.pc + 4) a7 exit_call (Ecall ∷ []) one code.1
