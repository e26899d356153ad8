use Rattle.std.proofs.Common.{arith, ap, ◌∙◌}
use Rattle.board_lock.proofs.PartLemmas.{rests, at-rest}
use Rattle.board_lock.proofs.SeatLemmas.{joins-step}
use Rattle.board_lock.proofs.shared.Shared+W.join.Goals as goal

pub join_seat-requires : goal.join_seat-requires
join_seat-requires g c =
    let words = c.args.self.now.sized.0 in
    let named = c.requires.seat.named in
    let other_named = c.requires.other.named in
    let other_rests = rests _ c.args.other c.requires.other_rests c.requires.other in (
      c.requires.seat.same,
      c.requires.other.same,
      other_rests.1,
      omega arith,
      joins-step g.W.Work.made c.args.self.now.table.shared.key.value c.args.seat.now.id c.args.seat.now.me.0 named.0 named.1 c.requires.first c.requires.rests
          c.args.other.id c.args.other.me.0 other_named.0 other_named.1 other_rests.0 c.requires.other_rests,
    )

pub compare-requires-clause-named : goal.compare-requires-clause-named
compare-requires-clause-named g c κs within = let named = c.requires.seat.named in (named.0, ap (λ m. m.0.program) c.join_seat.ensures.2 ∙ named.1)

pub returns-clause-seat : goal.returns-clause-seat
returns-clause-seat g c =
    let named = c.requires.seat.named in
    let mine = rests _ c.args.seat.now c.requires.rests c.requires.seat in
    let joined = c.join_seat.ensures.2 in
    let now = c.compare.ensures.one.now_is in
    at-rest _ _ named.0 (c.compare.ensures.lock ∙ c.join_seat.ensures.0 ∙ c.requires.seat.same)
    (ap (λ m. m.0.program) now ∙ ap (λ m. m.0.program) joined ∙ named.1) (ap (λ m. m.0.other_front) now)
    (ap (λ m. m.0.has_turn) now ∙ ap (λ m. m.0.has_turn) joined ∙ c.requires.rests) (ap (λ m. m.0.ticket) now ∙ ap (λ m. m.0.ticket) joined ∙ mine.0)
    (ap (λ m. m.1) now ∙ ap (λ m. m.1) joined ∙ mine.1)
