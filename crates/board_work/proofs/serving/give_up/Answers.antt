use Rattle.std.proofs.Common.{None, [], ◌∷◌, ◌++◌, sym, ap, ◌∙◌, subst}
use Rattle.board_core.specs.Calls.{SomebodyStopped}
use Rattle.board_core.specs.declared.event.Event.TheVariants.{Stop}
use Rattle.board_core.specs.OwnEvents.{held_from}
use Rattle.board_lock.specs.Seats.{sitting}
use Rattle.board_work.proofs.SeatLemmas.{has-stopped}
use Rattle.board_work.proofs.serving.give_up.Goals as goal

pub returns-clause-idle : goal.returns-clause-idle
returns-clause-idle g c =
    let stopped = has-stopped (sitting c.enter-board.new.seat) (sitting c.stop.new.seat) c.enter-board.result.1 c.stop.ensures.noted in
    ap (λ s. held_from None s.own) c.give.ensures.rests ∙ stopped.0

pub returns-clause-stopped : goal.returns-clause-stopped
returns-clause-stopped g c =
    let stopped = has-stopped (sitting c.enter-board.new.seat) (sitting c.stop.new.seat) c.enter-board.result.1 c.stop.ensures.noted in
    subst SomebodyStopped (ap (λ s. s.front) (sym c.give.ensures.rests)) stopped.1

pub returns-clause-noted : goal.returns-clause-noted
returns-clause-noted g c =
    ap (λ s. s.own) c.give.ensures.rests
    ∙ ap (λ s. s.own) c.stop.ensures.noted
    ∙ ap (λ w. (sitting c.enter-board.new.seat).own ++ Stop w ∷ []) c.enter-board.ensures.number
    ∙ ap (λ l. l ++ Stop c.args.position ∷ []) c.enter-board.ensures.own
