use Rattle.std.proofs.Common.{arith, ◌<◌, ◌++◌, [], ◌∷◌, length, sym, ap, ◌∙◌, subst}
use Rattle.board_core.specs.Board.{IsLegal}
use Rattle.board_core.specs.History.{program_of}
use Rattle.board_core.specs.OwnEvents.{worker_of}
use Rattle.board_lock.proofs.PartLemmas.{has_turn, on-turn}
use Rattle.board_lock.proofs.StepLemmas.{notes-step}
use Rattle.board_lock.proofs.shared.Shared+W.note_event.Goals as goal

pub fetch_add-requires : goal.fetch_add-requires
fetch_add-requires g c =
    let words = c.args.self.now.sized.0 in
    let front = c.args.seat.now.me.0.front in
    let is = c.requires.event in
    let added = c.requires.added ∙ (λ i. front ++ is i ∷ []) in (
      c.requires.seat.same,
      omega arith,
      notes-step g.W.Work.made c.args.self.now.table.shared.key.value _ c.args.seat.now.id c.args.seat.now.me c.args.board.now g.E.Noted.event c.requires.program c.requires.turn
          (ap worker_of (sym is) ∙ c.requires.by) (subst (IsLegal (program_of g.W.Work.made c.args.board.now)) added c.requires.legal)
          (subst (λ events. length events < 18446744073709551616) added c.requires.room),
    )

pub returns-clause-seat : goal.returns-clause-seat
returns-clause-seat g c =
    let named = c.requires.seat.named in
    let mine = has_turn _ c.args.seat.now c.requires.turn c.requires.seat in
    let now = c.fetch_add.ensures.2 in
    on-turn _ _ named.0 (c.fetch_add.ensures.0 ∙ c.requires.seat.same) (ap (λ m. m.0.program) now ∙ named.1) (ap (λ m. m.0.other_front) now ∙ c.requires.seat.compared)
    (ap (λ m. m.0.has_turn) now ∙ c.requires.turn) mine.0.0 (ap (λ m. m.0.ticket) now ∙ mine.0.1) (ap (λ m. m.1) now ∙ mine.1)
