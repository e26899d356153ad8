use Rattle.c_mean.proofs.Values.{conditions_are_scalar}
use Rattle.c_mean.proofs.operation_laws.conditions_are_scalar.Goals as goal

pub returns : goal.returns
returns c = conditions_are_scalar
