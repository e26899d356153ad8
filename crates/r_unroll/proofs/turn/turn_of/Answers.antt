use Rattle.std.proofs.Common.{sym}
use Rattle.r_unroll.proofs.Made.{found_closed, found_small, found_numbers}
use Rattle.r_unroll.proofs.turn.turn_of.Goals as goal

pub second_turn-requires-clause-closed : goal.second_turn-requires-clause-closed
second_turn-requires-clause-closed c = found_closed c.args.values c.args.next c.args.id c.args.region.now c.in-Some.body.now c.requires.closed (sym c.in-Some.ensures)

pub second_turn-requires-clause-small : goal.second_turn-requires-clause-small
second_turn-requires-clause-small c = found_small c.args.values c.args.next c.args.id c.args.region.now c.in-Some.body.now c.requires.closed (sym c.in-Some.ensures)

pub second_turn-requires-clause-numbers : goal.second_turn-requires-clause-numbers
second_turn-requires-clause-numbers c = found_numbers c.args.values c.args.next c.args.id c.args.region.now c.in-Some.body.now c.requires.closed (sym c.in-Some.ensures)
