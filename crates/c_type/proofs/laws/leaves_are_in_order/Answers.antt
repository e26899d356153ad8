use Rattle.c_type.proofs.Good.{leaves_are_in_order}
use Rattle.c_type.proofs.laws.leaves_are_in_order.Goals as goal

pub returns : goal.returns
returns c = leaves_are_in_order
