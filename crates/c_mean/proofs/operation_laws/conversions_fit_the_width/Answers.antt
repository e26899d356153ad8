use Rattle.c_mean.proofs.Values.{conversions_fit_the_width}
use Rattle.c_mean.proofs.operation_laws.conversions_fit_the_width.Goals as goal

pub returns : goal.returns
returns c = conversions_fit_the_width
