use Rattle.std.proofs.Common.{arith, [], ◌∷◌, sym, ap, subst}
use Rattle.atomic_table.specs.Table.{opening as opening_table}
use Rattle.board_lock.specs.Rule.{IsOneHistory}
use Rattle.board_lock.specs.Seats.{first_view}
use Rattle.board_lock.proofs.PartLemmas.{at-rest}
use Rattle.board_lock.proofs.SeatLemmas.{opens}
use Rattle.board_lock.proofs.shared.Shared+W.lay.Goals as goal

pub new-requires : goal.new-requires
new-requires g c =
    let board = c.args.about.now.value in
    let workers = c.requires.workers in
    subst (λ slots. IsOneHistory g.W.Work.made board (opening_table (0 ∷ 0 ∷ 0 ∷ []) slots (first_view board))) (sym c.requires.slots)
    (opens g.W.Work.made board c.requires.fresh c.requires.some_worker (omega arith))

pub returns-in-Ok-clause-seat : goal.returns-in-Ok-clause-seat
returns-in-Ok-clause-seat g c =
    let made = c.in-Ok.ensures.ok in
    let first = made.4 in
    at-rest _ c.in-Ok.seat c.args.about.now.value made.2 (ap (λ m. m.0.program) first) (ap (λ m. m.0.other_front) first) (ap (λ m. m.0.has_turn) first)
    (ap (λ m. m.0.ticket) first) (ap (λ m. m.1) first)
