use Rattle.c_mean.proofs.Numbers.{arithmetic_is_defined}
use Rattle.c_mean.proofs.operation_laws.arithmetic_is_defined.Goals as goal

pub returns : goal.returns
returns c = arithmetic_is_defined
