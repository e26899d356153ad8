use Rattle.std.proofs.Common.{subst}
use Rattle.board_core.specs.Board.{HasStopped}
use Rattle.board_core.specs.History.{state_of}
use Rattle.board_lock.specs.Seats.{sitting}
use Rattle.board_work.proofs.SeatLemmas.{may-stop}
use Rattle.board_work.proofs.turns.stop.Goals as goal

pub stop-requires-clause-going : goal.stop-requires-clause-going
stop-requires-clause-going g c κs within =
    subst (λ w. ¬ HasStopped (state_of g.W.Work.made c.args.board.now) w) c.requires.number
    (may-stop g.W.Work.made (sitting c.args.seat.now) c.args.board.now c.requires.board c.events-events.ensures.legal c.own_stops_decide.ensures c.requires.going)
