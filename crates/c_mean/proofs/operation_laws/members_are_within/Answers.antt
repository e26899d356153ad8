use Rattle.c_mean.proofs.Pointers.{members_are_within}
use Rattle.c_mean.proofs.operation_laws.members_are_within.Goals as goal

pub returns : goal.returns
returns c = members_are_within
