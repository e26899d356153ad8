use Rattle.std.proofs.Common.{◌≡◌, drop}
use Rattle.base.specs.Limits.{most_parameters}
use Rattle.c_check_def.specs.declared.refusal_kind.Quantity.TheVariants.{Parameters}
use Rattle.c_check_def.specs.Limits.{first_above}
use Rattle.c_check.proofs.quantities.many_parameters.Given as goal

abbrev pub invariant-loop-f : goal.invariant-loop-f
invariant-loop-f v = first_above Parameters most_parameters (λ f. f.params) v.fs ≡ first_above Parameters most_parameters (λ f. f.params) (drop v.f-index v.fs)
