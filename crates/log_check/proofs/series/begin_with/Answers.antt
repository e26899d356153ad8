use Rattle.std.proofs.Common.{◌≡◌, rules}
use Rattle.std.specs.Bool.{Decides}
use Rattle.std.proofs.lemmas.Slice.Eq.{slice_eq-Decides}
use Rattle.r_rule.specs.declared.steps.Step.{Step}
use Rattle.r_rule.specs.contracts.steps.StepPartialEq.TheImpl as step_eq
use Rattle.log_check.proofs.series.begin_with.Goals as goal

-- steps that `==` finds equal are one
same-steps : (a b : Step) → Decides (step_eq.eq-value.it a b) (a ≡ b)
same-steps a b = (λ e. search rules, λ e. search rules)

pub returns-clause-same : goal.returns-clause-same
returns-clause-same c = slice_eq-Decides same-steps _ _ _ c.starts_with.ensures.value
