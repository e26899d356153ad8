use Rattle.c_mean.proofs.Numbers.{numbers_are_compared}
use Rattle.c_mean.proofs.operation_laws.numbers_are_compared.Goals as goal

pub returns : goal.returns
returns c = numbers_are_compared
