use Rattle.c_check_laws.proofs.GlobalsOrdered.{globals_stand_in_order}
use Rattle.c_check_laws.proofs.place_laws.globals_stand_in_order.Goals as goal

pub returns : goal.returns
returns c = globals_stand_in_order c.tokens_are_longest.ensures
