use Rattle.c_mean.proofs.Pointers.{order_is_of_one_object, difference_is_of_one_object}
use Rattle.c_mean.proofs.operation_laws.order_is_of_one_object.Goals as goal

pub returns-clause-order : goal.returns-clause-order
returns-clause-order c = order_is_of_one_object

pub returns-clause-difference : goal.returns-clause-difference
returns-clause-difference c = difference_is_of_one_object
