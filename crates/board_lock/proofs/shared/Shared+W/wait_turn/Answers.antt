use Rattle.std.proofs.Common.{Some, sym, ap, ◌∙◌, subst}
use Rattle.board_lock.specs.Steps.{Enters}
use Rattle.board_lock.proofs.shared.Shared+W.wait_turn.Goals as goal

pub look-served-requires-clause-named : goal.look-served-requires-clause-named
look-served-requires-clause-named g c κs within = (c.requires.named.0, ap (λ m. m.0.program) c.loop.invariant.1 ∙ c.requires.named.1)

pub returns-then-served-ticket-clause-turn : goal.returns-then-served-ticket-clause-turn
returns-then-served-ticket-clause-turn g c =
    let same = c.loop.invariant.1 in
    subst (λ m. Enters g.W.Work.made m c.look-served.new.seat.me) same
    (c.look-served.ensures.turn (ap (λ m. m.0.ticket) same ∙ c.requires.ticket ∙ ap Some (sym c.if-served-ticket.true)))
