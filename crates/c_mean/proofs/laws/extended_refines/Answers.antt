use Rattle.c_mean.proofs.Extends.{extended_refines}
use Rattle.c_mean.proofs.laws.extended_refines.Goals as goal

pub returns : goal.returns
returns g c = extended_refines
