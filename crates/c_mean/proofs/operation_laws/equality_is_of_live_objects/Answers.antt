use Rattle.c_mean.proofs.Pointers.{equality_is_of_live_objects}
use Rattle.c_mean.proofs.operation_laws.equality_is_of_live_objects.Goals as goal

pub returns : goal.returns
returns c = equality_is_of_live_objects
