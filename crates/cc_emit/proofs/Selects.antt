-- The lines of a lambda meet what selection asks.
use Rattle.std.proofs.Common.{◌≡◌, ◌≤◌, refl, subst, sym, true, List, [], ◌∷◌, map, length, arith}
use Rattle.std.proofs.lemmas.Bool.{le-leb}
use Rattle.std.specs.Prelude.{nat_le}
use Rattle.g_graph.specs.WellFormed.{all_of}
use Rattle.val_core.proofs.lemmas.Numbers.{length_numbers}
use Rattle.s_linear.proofs.lemmas.Passing.{StepPasses, CodePasses, CodesPass, lines_pass}
use Rattle.s_linear.specs.Linear.{Instr, Step, plain, choice, loop, Code, no_steps, step_then, Codes, no_codes, code_then, LinearFunction}
use Rattle.s_linear.specs.Lines.{done}
use Rattle.s_linear.specs.declared.frame.CodeForm.{CodeForm}
use Rattle.s_linear.specs.declared.frame.CodeForm.TheVariants.{Plain, Tight}
use Rattle.val_core.specs.Numbers.{numbers_from}
use Rattle.s_sequence.specs.Laws.{ObjectsAreThere, CallsKeepArguments, WidthsFit}
use Rattle.s_sequence.specs.Sequence.{sequenced}
use Rattle.s_select.specs.Conditions.{has_few_params}
use Rattle.cc_emit.specs.Image.{places_in}
use Rattle.cc_emit.specs.Laws.{NamesHavePlaces, LambdaCanSelect}

few_instrs : (is : List Instr) → all_of has_few_params (map done is) ≡ true
few_instrs [] = refl
few_instrs (i ∷ is) = few_instrs is

-- code enters no function
mutual
  few_step : (s : Step) → StepPasses has_few_params s
  few_step (plain i) = refl
  few_step (choice p cs) = ((λ two. ((λ r l. refl), (λ l. refl))), few_codes cs)
  few_step (loop moves body p back) = (few_instrs moves, few_code body, λ l. refl, few_instrs back)

  few_code : (c : Code) → CodePasses has_few_params c
  few_code no_steps = tt
  few_code (step_then s c) = (few_step s, few_code c)

  few_codes : (cs : Codes) → CodesPass has_few_params cs
  few_codes no_codes = tt
  few_codes (code_then c cs) = (few_code c, few_codes cs)

temporaries_few : (form : CodeForm) (f : LinearFunction) → (places_in form f).temporaries ≤ 4
temporaries_few Plain f = omega arith
temporaries_few Tight f = omega arith

pub lambda_can_select : NamesHavePlaces → ObjectsAreThere → CallsKeepArguments → WidthsFit → LambdaCanSelect
lambda_can_select placed there keeps widths form l frame well few calls framed = record {
  few = temporaries_few form (sequenced l);
  placed = placed form (sequenced l);
  named = there l well;
  framed = framed;
  params =
      lines_pass has_few_params (λ k. refl) (λ k. refl) (sequenced l)
      (le-leb (length (numbers_from 0 l.params)) 8 (subst (λ n. n ≤ 8) (sym (length_numbers 0 l.params)) few)) (few_code (sequenced l).code) refl;
  arguments = keeps (λ f n. nat_le n 8) l calls;
  widths = widths l well;
}
