use Rattle.std.specs.Arc.{arc_value}
use Rattle.board_lock.specs.Seats.{sitting}
use Rattle.board_work.proofs.SeatLemmas.{hand-stays, next-stays, a-turn}
use Rattle.board_work.proofs.turns.turn.Goals as goal

pub empty_hand-requires-clause-hand : goal.empty_hand-requires-clause-hand
empty_hand-requires-clause-hand g c κs within =
    hand-stays g.W.Work.made arc_value (sitting c.args.worker.now.seat) (sitting c.enter-board.new.seat) c.args.hand c.enter-board.ensures.same c.enter-board.ensures.own
    c.requires.hand

pub returns-clause-next : goal.returns-clause-next
returns-clause-next g c =
    next-stays g.W.Work.made g.W.Work.jobs (sitting c.choose-next.new.seat) (sitting c.give.new.seat) _ c.choose-next.result c.give.ensures.rests c.choose-next.ensures.next

pub returns-clause-turn : goal.returns-clause-turn
returns-clause-turn g c =
    let chosen = c.choose-next.ensures.noted in
    a-turn c.args.position c.enter-board.result.1 c.args.hand c.choose-next.result (sitting c.args.worker.now.seat) (sitting c.enter-board.new.seat) (sitting c.empty_hand.new.seat)
    (sitting c.choose-next.new.seat) (sitting c.give.new.seat) c.enter-board.ensures.number c.enter-board.ensures.own c.empty_hand.ensures.noted chosen.0 chosen.1 chosen.2
    c.give.ensures.rests
