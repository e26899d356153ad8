use Rattle.std.proofs.Common.{arith, ap, ◌∙◌}
use Rattle.board_lock.proofs.PartLemmas.{rests, at-rest}
use Rattle.board_lock.proofs.SeatLemmas.{splits-step}
use Rattle.board_lock.proofs.shared.Shared+W.split.Goals as goal

pub split_seat-requires : goal.split_seat-requires
split_seat-requires g c =
    let words = c.args.self.now.sized.0 in
    let few = c.requires.few in (
      c.requires.seat.same,
      omega arith,
      splits-step g.W.Work.made c.args.self.now.table.shared.key.value c.args.seat.now.id c.args.seat.now.me.0 few.0 few.1 c.requires.first c.requires.rests few.2,
    )

pub returns-clause-seat : goal.returns-clause-seat
returns-clause-seat g c =
    let few = c.requires.few in
    let mine = rests _ c.args.seat.now c.requires.rests c.requires.seat in
    let now = c.split_seat.ensures.2 in
    at-rest _ _ few.0 (c.split_seat.ensures.0 ∙ c.requires.seat.same) (ap (λ m. m.0.program) now ∙ few.1) (ap (λ m. m.0.other_front) now ∙ c.requires.seat.compared)
    (ap (λ m. m.0.has_turn) now ∙ c.requires.rests) (ap (λ m. m.0.ticket) now ∙ mine.0) (ap (λ m. m.1) now ∙ mine.1)

pub returns-clause-new : goal.returns-clause-new
returns-clause-new g c =
    let few = c.requires.few in
    let now = c.split_seat.ensures.4 in
    at-rest _ _ few.0 (c.split_seat.ensures.3 ∙ c.requires.seat.same) (ap (λ m. m.0.program) now ∙ few.1) (ap (λ m. m.0.other_front) now)
    (ap (λ m. m.0.has_turn) now) (ap (λ m. m.0.ticket) now) (ap (λ m. m.1) now)
