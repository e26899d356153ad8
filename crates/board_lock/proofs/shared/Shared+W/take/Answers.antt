use Rattle.std.proofs.Common.{Some, None, ◌∷◌, sym, ap, ◌∙◌}
use Rattle.atomic_table.specs.Table.{rest}
use Rattle.board_lock.proofs.PartLemmas.{on-turn}
use Rattle.board_lock.proofs.shared.Shared+W.take.Goals as goal

pub wait_turn-requires-clause-named : goal.wait_turn-requires-clause-named
wait_turn-requires-clause-named g c κs within = let named = c.requires.seat.named in (named.0, ap (λ m. m.0.program) c.draw-ticket.ensures.ticket ∙ named.1)

pub exchange-requires : goal.exchange-requires
exchange-requires g c =
    let enters = c.wait_turn.ensures.turn in (
      c.wait_turn.ensures.lock ∙ c.draw-ticket.ensures.lock ∙ c.requires.seat.same,
      (Some enters.board, ap (λ m. m.1) enters.now_is ∙ (λ i. (0, Some enters.board) ∷ sym (ap (λ m. rest m.1) enters.now_is) i)),
    )

pub returns-clause-seat : goal.returns-clause-seat
returns-clause-seat g c =
    let named = c.requires.seat.named in
    let drawn = c.draw-ticket.ensures.ticket in
    let entered = c.wait_turn.ensures.turn.now_is in
    let now = c.exchange.ensures.3 in
    on-turn _ _ named.0 (c.exchange.ensures.0 ∙ c.wait_turn.ensures.lock ∙ c.draw-ticket.ensures.lock ∙ c.requires.seat.same)
    (ap (λ m. m.0.program) now ∙ ap (λ m. m.0.program) entered ∙ ap (λ m. m.0.program) drawn ∙ named.1)
    (ap (λ m. m.0.other_front) now ∙ ap (λ m. m.0.other_front) entered ∙ ap (λ m. m.0.other_front) drawn ∙ c.requires.seat.compared)
    (ap (λ m. m.0.has_turn) now ∙ ap (λ m. m.0.has_turn) entered) c.draw-ticket.result
    (ap (λ m. m.0.ticket) now ∙ ap (λ m. m.0.ticket) entered ∙ ap (λ m. m.0.ticket) drawn)
    (ap (λ m. m.1) now ∙ (λ i. (0, None) ∷ (ap (λ m. rest m.1) entered ∙ ap (λ m. m.1) drawn) i))
