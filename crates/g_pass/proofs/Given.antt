-- What each answer of a list is made of: well-formed lambdas of other functions.
use Rattle.std.specs.Prelude.{slice_index, option_map, unwrap_or}
use Rattle.std.specs.List.{AllByRecursion}
use Rattle.std.proofs.Common.{◌≡◌, ◌<◌, ℕ, zero, suc, List, [], ◌∷◌, map, length, Some, slice_get, slice_index_or, Contains, refl, sym, ap, subst, ◌∙◌, arith}
use Rattle.std.proofs.lemmas.Option.{same_Some, slice_get-map}
use Rattle.board_core.specs.Answers.{all_some, answer}
use Rattle.board_core.proofs.lemmas.Answers.{all_some-cons}
use Rattle.r_rule.specs.declared.steps.Rule.{Rule}
use Rattle.g_graph.specs.Lists.{IsComplete}
use Rattle.g_graph.specs.Plain.{PlainLambda}
use Rattle.r_rule.specs.Optimised.{PlainOptimised}
use Rattle.g_graph.specs.WellFormed.{IsWellFormed}
use Rattle.r_edit.specs.Steps.{IsApartFrom}
use Rattle.g_pass_order.specs.Calls.{no_lambda}
use Rattle.g_pass_order.specs.Laws.{OrdersAreRanked}
use Rattle.g_pass_def.specs.Sweep.{optimise}
use Rattle.g_pass_def.specs.Answers.{AreAnswers, lambdas_of, program}
use Rattle.g_pass_def.proofs.lemmas.Answers.{made-of}
use Rattle.g_pass.specs.Sweep.{rules}
use Rattle.g_pass.specs.MeaningLaws.{RulesAreSteps, AnswersKeepLists}
use Rattle.g_pass.specs.StepLaws.{RulesKeepNumbers, AreFewSteps, AnswersHaveFewSteps}
use Rattle.g_pass.proofs.SweepSteps.{few_steps}

-- lambdas of other functions
record AreGiven (number : ℕ) (held : List PlainLambda) : Type 0 where
  well_formed : AllByRecursion IsWellFormed held
  apart : IsApartFrom number held

module _ (ranked : OrdersAreRanked) (recipe : List Rule) (ls : List PlainLambda) (answers : List PlainOptimised) (all : AreAnswers rules recipe ls answers)
    (complete : IsComplete (lambdas_of answers)) where
  -- an answer as a lambda of the list of answers
  answer_at : (d : ℕ) (a : PlainOptimised) → slice_get answers d ≡ Some a → slice_get (lambdas_of answers) d ≡ Some a.lambda
  answer_at d a e = slice_get-map (λ (o : PlainOptimised). o.lambda) answers d ∙ ap (λ o. option_map (λ (x : PlainOptimised). x.lambda) o) e

  given_all : (j : ℕ) (ds : List ℕ) (outs : List PlainOptimised) → all_some (map (answer (program rules recipe ls all.ranks all.deps 1)) ds) ≡ Some outs →
      ((d : ℕ) → Contains ds d → Contains (slice_index_or all.deps j []) d) → AreGiven j (lambdas_of outs)
  given_all j [] outs e within =
      subst (λ xs. AreGiven j (lambdas_of xs)) (same_Some [] outs e) (record { well_formed = tt; apart = tt })
  given_all j (d ∷ ds) outs e within =
      let p = program rules recipe ls all.ranks all.deps 1 in
      let parts = all_some-cons (answer p d) (map (answer p) ds) outs e in
      let dep = (ranked ls all.ranks all.deps all.order).dep j d (within d (0, omega arith, refl)) in
      let at = answer_at d parts.0 (all.each d dep.known ∙ parts.2) in
      let number = complete.numbered d parts.0.lambda at in
      let rest = given_all j ds parts.1 parts.3 (λ k h. within k (suc h.0, omega (arith, h.1), h.2)) in
      subst (λ xs. AreGiven j (lambdas_of xs)) (sym parts.4)
      (record {
        well_formed = (complete.well_formed d parts.0.lambda at, rest.well_formed);
        apart = (
          λ same.
              let equal : d ≡ j = sym number ∙ same in
              let ranks = ap (slice_index all.ranks) equal in
              omega (arith, dep.smaller, ranks),
          rest.apart,
        );
      })

pub answers_have_few_steps : OrdersAreRanked → RulesAreSteps → RulesKeepNumbers → AnswersKeepLists → AnswersHaveFewSteps
answers_have_few_steps ranked are_steps keep kept recipe ls answers complete has all f l a at is =
    let inside : f < length ls = omega (arith, inside_of ls f l at) in
    let one = made-of ranked rules recipe ls answers all f inside in
    let after = (kept recipe ls answers complete all).stands.complete complete in
    let given = given_all ranked recipe ls answers all after f (slice_index_or all.deps f []) one.callees one.callees_are (λ d h. h) in
    let number = complete.numbered f l at in
    let held = lambdas_of one.callees in
    let made : optimise rules held recipe l ≡ a =
    ap (λ o. optimise rules held recipe (unwrap_or o no_lambda)) (sym at) ∙ same_Some _ a (sym one.is ∙ is) in
    subst (λ (x : PlainOptimised). AreFewSteps recipe l x.steps) made
    (few_steps are_steps keep held given.well_formed l (subst (λ n. IsApartFrom n held) (sym number) given.apart) (complete.well_formed f l at) (has f l at) recipe)
  where
    inside_of : (xs : List PlainLambda) (k : ℕ) (x : PlainLambda) → slice_get xs k ≡ Some x → k < length xs
    inside_of [] k x e = absurd cc
    inside_of (y ∷ xs) zero x e = omega arith
    inside_of (y ∷ xs) (suc k) x e = let rest = inside_of xs k x e in omega (arith, rest)
