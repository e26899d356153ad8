-- The names of a function are below a number where those of its lines are.
use Rattle.std.proofs.Common.{◌≡◌, ℕ, ◌<◌, true, false, List, [], ◌∷◌, ◌++◌, map, flat_map, refl, ◌∙◌}
use Rattle.std.specs.Prelude.{nat_le, nat_lt, if◌then◌else◌}
use Rattle.std.proofs.lemmas.Bool.{and_from, and_parts, leb-true}
use Rattle.g_graph.specs.Plain.{PlainLambda}
use Rattle.g_graph.specs.Program.{lambda_values}
use Rattle.g_graph.specs.WellFormed.{all_of, IsWellFormed}
use Rattle.g_graph.proofs.lemmas.Unique.{all_of_append}
use Rattle.val_core.specs.Numbers.{numbers_from}
use Rattle.s_linear.specs.Linear.{Instr, Step, plain, choice, loop, Code, no_steps, step_then, Codes, no_codes, code_then}
use Rattle.s_linear.specs.Lines.{done, counted, instr_names, names_below}
use Rattle.s_linear.proofs.lemmas.Passing.{StepPasses, CodePasses, CodesPass}
use Rattle.s_sequence.specs.Sequence.{sequenced}
use Rattle.s_sequence.proofs.lemmas.Named.{parts_are_below}
use Rattle.a_place.specs.Share.{predicate_names, step_names, code_names, codes_names, all_names}

module _ (n : ℕ) where
  abbrev Below : List ℕ → Type 0
  Below xs = all_of (λ x. nat_lt x n) xs ≡ true

  both : (xs ys : List ℕ) → Below xs → Below ys → Below (xs ++ ys)
  both xs ys a b = all_of_append (λ x. nat_lt x n) xs ys ∙ and_from (all_of (λ x. nat_lt x n) xs) (all_of (λ x. nat_lt x n) ys) a b

  instrs_below : (is : List Instr) → all_of (names_below n) (map done is) ≡ true → Below (flat_map instr_names is)
  instrs_below [] h = refl
  instrs_below (i ∷ is) h =
      let parts = and_parts (names_below n (done i)) (all_of (names_below n) (map done is)) h in
      both (instr_names i) (flat_map instr_names is) parts.0 (instrs_below is parts.1)

  predicate_below : (p : ℕ) (cs : Codes) → (1 < counted cs → Below (p ∷ [])) → Below (predicate_names p cs)
  predicate_below p cs h =
      elim (nat_le 2 (counted cs)) as (λ b. (b ≡ true → Below (p ∷ [])) → Below (if b then p ∷ [] else [])) [
        | true ↦ λ k. k refl
        | false ↦ λ k. refl
      ] (λ two. h (leb-true 2 (counted cs) two))

  mutual
    step_below : (s : Step) → StepPasses (names_below n) s → Below (step_names s)
    step_below (plain i) h = h
    step_below (choice p cs) h = both (predicate_names p cs) (codes_names cs) (predicate_below p cs (λ two. (h.0 two).1 0)) (codes_below cs h.1)
    step_below (loop enter body p back) h =
        both (flat_map instr_names enter ++ code_names body) (p ∷ flat_map instr_names back)
        (both (flat_map instr_names enter) (code_names body) (instrs_below enter h.0) (code_below body h.1))
        (and_from (nat_lt p n) (all_of (λ x. nat_lt x n) (flat_map instr_names back)) (and_parts (nat_lt p n) true (h.2 0)).0 (instrs_below back h.3))

    code_below : (c : Code) → CodePasses (names_below n) c → Below (code_names c)
    code_below no_steps h = refl
    code_below (step_then s c) h = both (step_names s) (code_names c) (step_below s h.0) (code_below c h.1)

    codes_below : (cs : Codes) → CodesPass (names_below n) cs → Below (codes_names cs)
    codes_below no_codes h = refl
    codes_below (code_then c cs) h = both (code_names c) (codes_names cs) (code_below c h.0) (codes_below cs h.1)

pub all_below : (l : PlainLambda) → IsWellFormed l → all_of (λ x. nat_lt x (lambda_values l)) (all_names (sequenced l)) ≡ true
all_below l w =
    let n = lambda_values l in
    let f = sequenced l in
    let h = parts_are_below l w in
    both n (numbers_from 0 f.params) (f.value ∷ code_names f.code) h.0
    (and_from (nat_lt f.value n) (all_of (λ x. nat_lt x n) (code_names f.code)) (and_parts (nat_lt f.value n) true h.2).0 (code_below n f.code h.1))
