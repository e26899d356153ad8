use Rattle.std.proofs.Common.{arith, Some, ◌∷◌, sym, ap, ◌∙◌}
use Rattle.atomic_table.specs.Table.{rest}
use Rattle.board_lock.proofs.PartLemmas.{has_turn, at-rest}
use Rattle.board_lock.proofs.StepLemmas.{leaves-step}
use Rattle.board_lock.proofs.shared.Shared+W.give.Goals as goal

pub fetch_add-requires : goal.fetch_add-requires
fetch_add-requires g c =
    let words = c.args.self.now.sized.0 in
    let mine = has_turn _ c.args.seat.now c.requires.turn c.requires.seat in
    let now = c.exchange.ensures.3 in (
      c.exchange.ensures.0 ∙ c.requires.seat.same,
      omega arith,
      leaves-step g.W.Work.made c.args.self.now.table.shared.key.value _ c.exchange.new.seat.id c.exchange.new.seat.me c.args.board
          (ap (λ m. m.0.program) now ∙ c.requires.board.0) (ap (λ m. m.0.has_turn) now ∙ c.requires.turn)
          (ap (λ m. m.1) now ∙ (λ i. (0, Some c.args.board) ∷ rest (mine.1 i))) (c.requires.board.1 ∙ sym (ap (λ m. m.0.front) now)),
    )

pub returns-clause-seat : goal.returns-clause-seat
returns-clause-seat g c =
    let mine = has_turn _ c.args.seat.now c.requires.turn c.requires.seat in
    let before = c.exchange.ensures.3 in
    let now = c.fetch_add.ensures.2 in
    at-rest _ _ c.args.board (c.fetch_add.ensures.0 ∙ c.exchange.ensures.0 ∙ c.requires.seat.same)
    (ap (λ m. m.0.program) now ∙ ap (λ m. m.0.program) before ∙ c.requires.board.0) (ap (λ m. m.0.other_front) now ∙ ap (λ m. m.0.other_front) before ∙ c.requires.seat.compared)
    (ap (λ m. m.0.has_turn) now) (ap (λ m. m.0.ticket) now) (ap (λ m. m.1) now ∙ ap (λ m. rest m.1) before ∙ (λ i. rest (mine.1 i)))
