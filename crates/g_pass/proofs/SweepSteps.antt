-- Sweeps of a recipe: a step at each node at most, at numbers of 32 bits.
use mathlib.Core.List.{reverse_aux}
use Rattle.std.specs.Prelude.{nat_lt, reverse, if◌then◌else◌}
use Rattle.std.specs.List.{fold, AllByRecursion}
use Rattle.std.proofs.Common.{◌≡◌, ◌≤◌, ◌<◌, ◌+◌, ◌*◌, ◌^◌, ℕ, suc, Bool, true, false, List, [], ◌∷◌, ◌++◌, length, length-append, Option, None, Some, inl, inr, refl, sym, subst, ◌∙◌, arith}
use Rattle.std.proofs.Math.Nat.{suc-mul}
use Rattle.std.proofs.lemmas.Bool.{and_parts}
use Rattle.std.proofs.lemmas.Bool.Decides.{nat_tests}
use Rattle.std.proofs.lemmas.List.{length-reverse}
use Rattle.base.specs.Limits.{most_grown_values}
use Rattle.r_rule.specs.declared.steps.Rule.{Rule}
use Rattle.r_rule.specs.declared.steps.Step.{Step}
use Rattle.g_graph.specs.Plain.{PlainLambda}
use Rattle.g_graph.specs.Ids.{region_ids}
use Rattle.g_graph.specs.Program.{lambda_values}
use Rattle.g_graph.specs.WellFormed.{all_of, distinct, numbers_fit, IsWellFormed}
use Rattle.r_edit.specs.Size.{IsNoLarger}
use Rattle.r_edit.specs.Steps.{IsApartFrom}
use Rattle.r_edit.proofs.lemmas.Steps.{no-larger-composes}
use Rattle.g_pass_def.specs.Sweep.{Swept, stepped, tried, in_order, sweep, swept}
use Rattle.g_pass.specs.Sweep.{rules}
use Rattle.g_pass.specs.MeaningLaws.{RulesAreSteps}
use Rattle.g_pass.specs.StepLaws.{HasNumbers, RulesKeepNumbers, AreFewSteps}
use Rattle.g_pass.proofs.Sized.{lambda_sized}

-- ---- lists of numbers

abbrev AreNumbers : List ℕ → Type 0
AreNumbers ns = AllByRecursion (λ n. n < 2 ^ 32) ns

numbers_below : (next : ℕ) (ns : List ℕ) → next < 2 ^ 32 → all_of (λ n. nat_lt n next) ns ≡ true → AreNumbers ns
numbers_below next [] h e = tt
numbers_below next (n ∷ ns) h e =
    let both = and_parts (nat_lt n next) (all_of (λ m. nat_lt m next) ns) e in
    let first = both.0 in
    let below : n < next = grind (arith, nat_tests) in
    (omega (arith, below, h), numbers_below next ns h both.1)

reversed_onto : (ns ms : List ℕ) → AreNumbers ns → AreNumbers ms → AreNumbers (reverse_aux ns ms)
reversed_onto [] ms h g = g
reversed_onto (n ∷ ns) ms h g = reversed_onto ns (n ∷ ms) h.1 (h.0, g)

ordered_numbers : (t : Bool) (ns : List ℕ) → AreNumbers ns → AreNumbers (if t then reverse ns else ns)
ordered_numbers true ns h = reversed_onto ns [] h tt
ordered_numbers false ns h = h

ordered_length : (t : Bool) (ns : List ℕ) → length (if t then reverse ns else ns) ≡ length ns
ordered_length true ns = length-reverse ns
ordered_length false ns = refl

-- the numbers of a well-formed lambda
own_numbers : (l : PlainLambda) → IsWellFormed l → HasNumbers l → AreNumbers (region_ids l.body)
own_numbers l w has =
    numbers_below l.next (region_ids l.body) has
    (and_parts (distinct (region_ids l.body)) _ (and_parts _ (numbers_fit l) (and_parts _ _ (and_parts _ _ w).0).0).1).1

-- ---- steps

steps_more : (steps : List Step) (s : Step) → AllByRecursion (λ (x : Step). x.node < 2 ^ 32) steps → s.node < 2 ^ 32 →
    AllByRecursion (λ (x : Step). x.node < 2 ^ 32) (steps ++ s ∷ [])
steps_more [] s h g = (g, tt)
steps_more (x ∷ steps) s h g = (h.0, steps_more steps s h.1 g)

module _ (are_steps : RulesAreSteps) (keep : RulesKeepNumbers) (held : List PlainLambda) (all : AllByRecursion IsWellFormed held) (l : PlainLambda) (apart : IsApartFrom l.number held) where
  -- what is known of a lambda that steps have made of `l`
  record Stands (s : Swept) : Type 0 where
    number : s.lambda.number ≡ l.number
    well_formed : IsWellFormed s.lambda
    values : IsNoLarger (lambda_values l) (lambda_values s.lambda)
    has : HasNumbers s.lambda
    steps : AllByRecursion (λ (x : Step). x.node < 2 ^ 32) s.steps

  -- a step was taken, or not
  record Onward (s t : Swept) (most : ℕ) : Type 0 where
    stands : Stands t
    few : length t.steps ≤ length s.steps + most

  tried_on : (r : Rule) (s : Swept) (n : ℕ) → Stands s → n < 2 ^ 32 → Onward s (tried rules held r s n) 1
  tried_on r s n h small = by (rules.step r held n s.lambda) refl
    where
      by : (o : Option PlainLambda) → rules.step r held n s.lambda ≡ o → Onward s (stepped r n s o) 1
      by None e = record { stands = h; few = omega arith }
      by (Some k) e =
          let step = are_steps r held n s.lambda k h.well_formed all (subst (λ m. IsApartFrom m held) (sym h.number) apart) e in
          let one : Step = record { rule = r; node = n } in
          record {
            stands = record {
              number = step.interface.number ∙ h.number;
              well_formed = step.well_formed;
              values = no-larger-composes (lambda_values l) (lambda_values s.lambda) (lambda_values k) h.values step.values;
              has = keep r held n s.lambda k h.well_formed h.has e;
              steps = steps_more s.steps one h.steps small;
            };
            few = omega (arith, length-append s.steps (one ∷ []));
          }

  nodes_on : (r : Rule) (ns : List ℕ) (s : Swept) → Stands s → AreNumbers ns → Onward s (fold (tried rules held r) s ns) (length ns)
  nodes_on r [] s h g = record { stands = h; few = omega arith }
  nodes_on r (n ∷ ns) s h g =
      let first = tried_on r s n h g.0 in
      let rest = nodes_on r ns (tried rules held r s n) first.stands g.1 in
      record { stands = rest.stands; few = omega (arith, first.few, rest.few) }

  -- as many values as there can be
  abbrev most : ℕ
  most = most_grown_values + lambda_values l

  bounded : (v : ℕ) → IsNoLarger (lambda_values l) v → v ≤ most
  bounded v (inl e) = omega (arith, e)
  bounded v (inr e) = omega (arith, e)

  record Swept_on (s t : Swept) (sweeps : ℕ) : Type 0 where
    stands : Stands t
    few : 2 * length t.steps ≤ 2 * length s.steps + sweeps * most

  sweep_on : (r : Rule) (s : Swept) → Stands s → Swept_on s (sweep rules held s r) 1
  sweep_on r s h =
      let ids = region_ids s.lambda.body in
      let on = nodes_on r (in_order rules r ids) s h (ordered_numbers (rules.is_backward r) ids (own_numbers s.lambda h.well_formed h.has)) in
      let sized = lambda_sized s.lambda h.well_formed in
      let bound = bounded (lambda_values s.lambda) h.values in
      record { stands = on.stands; few = omega (arith, on.few, ordered_length (rules.is_backward r) ids, sized, bound) }

  recipe_on : (recipe : List Rule) (s : Swept) → Stands s → Swept_on s (fold (sweep rules held) s recipe) (length recipe)
  recipe_on [] s h = record { stands = h; few = omega arith }
  recipe_on (r ∷ recipe) s h =
      let first = sweep_on r s h in
      let rest = recipe_on recipe (sweep rules held s r) first.stands in
      let last = fold (sweep rules held) (sweep rules held s r) recipe in
      record { stands = rest.stands; few = added (length recipe) most (length s.steps) (length (sweep rules held s r).steps) (length last.steps) first.few rest.few }
    where
      added : (n m a b c : ℕ) → 2 * b ≤ 2 * a + 1 * m → 2 * c ≤ 2 * b + n * m → 2 * c ≤ 2 * a + suc n * m
      added n m a b c h g = let e : suc n * m ≡ n * m + m = suc-mul n m in omega (arith, h, g, e)

  pub few_steps : IsWellFormed l → HasNumbers l → (recipe : List Rule) → AreFewSteps recipe l (swept rules held recipe l).steps
  few_steps w has recipe =
      let on =
      recipe_on recipe (record { lambda = l; steps = [] })
      (record { number = refl; well_formed = w; values = inr (omega arith); has = has; steps = tt }) in
      record { numbers = on.stands.steps; few = none_before (length (swept rules held recipe l).steps) (length recipe * most) on.few }
    where
      none_before : (a b : ℕ) → 2 * a ≤ 2 * 0 + b → 2 * a ≤ b
      none_before a b h = omega (arith, h)
