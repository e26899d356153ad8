use Rattle.c_mean.proofs.ExtendRuns.{deepest_grows}
use Rattle.c_mean.proofs.laws.deepest_grows.Goals as goal

pub returns : goal.returns
returns c = deepest_grows
