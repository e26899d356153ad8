use Rattle.std.proofs.Common.{refl}
use Rattle.board_tests.proofs.orders.units_of.Goals as goal

pub units-requires-clause-known : goal.units-requires-clause-known
units-requires-clause-known c = c.if-all_known.ensures.0 refl
