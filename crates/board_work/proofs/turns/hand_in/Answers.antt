use Rattle.std.proofs.Common.{ap, ◌∙◌}
use Rattle.board_core.specs.Board.{Held}
use Rattle.board_lock.specs.Seats.{sitting}
use Rattle.board_work.proofs.SeatLemmas.{may-hand-in}
use Rattle.board_work.proofs.turns.hand_in.Goals as goal

pub publish-requires-clause-holds : goal.publish-requires-clause-holds
publish-requires-clause-holds g c κs within =
    let seen = c.events-events.ensures in
    (may-hand-in g.W.Work.made (sitting c.args.seat.now) c.args.board.now c.requires.board seen.ranked seen.legal c.own_events_decide.ensures c.deps_give_answer.ensures
    c.args.job _ c.requires.holds c.requires.result).0
    ∙ ap Held c.requires.number

pub publish-requires-clause-defined : goal.publish-requires-clause-defined
publish-requires-clause-defined g c κs within =
    let seen = c.events-events.ensures in
    (may-hand-in g.W.Work.made (sitting c.args.seat.now) c.args.board.now c.requires.board seen.ranked seen.legal c.own_events_decide.ensures c.deps_give_answer.ensures
    c.args.job _ c.requires.holds c.requires.result).1
