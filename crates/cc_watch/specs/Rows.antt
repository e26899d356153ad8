-- What a recipe did to a function.
use Rattle.std.specs.Prelude.{ℕ, List}
use Rattle.std.proofs.Common.{refl}
use Rattle.std.specs.Coded.{Coded, code_by, coded×, coded_ℕ, coded_list}
use Rattle.r_rule.specs.declared.steps.Step.{Step}
use Rattle.r_rule.specs.Optimised.{coded_steps}

-- The name of the function, how many values its graph has before and after, and the steps that were applied, in order.
pub record PlainRow : Type 0 where
  pub name : List ℕ
  pub before : ℕ
  pub after : ℕ
  pub steps : List Step

abbrev pub coded_row : Coded PlainRow
coded_row =
    code_by (List ℕ × (ℕ × (ℕ × List Step))) (coded× (coded_list coded_ℕ) (coded× coded_ℕ (coded× coded_ℕ coded_steps)))
    (λ r. (r.name, (r.before, (r.after, r.steps)))) (λ p. record { name = p.0; before = p.1.0; after = p.1.1.0; steps = p.1.1.1 }) (λ _. refl)
