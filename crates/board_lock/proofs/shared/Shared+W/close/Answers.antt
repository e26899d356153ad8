use Rattle.std.proofs.Common.{◌≡◌, refl, sym, subst}
use Rattle.std.specs.Option.{IsSome}
use Rattle.board_lock.specs.Seats.{sitting, Closes}
use Rattle.board_lock.proofs.PartLemmas.{closes-final}
use Rattle.board_lock.proofs.shared.Shared+W.close.Goals as goal

pub unwrap-requires : goal.unwrap-requires
unwrap-requires g c =
    let named = c.requires.seat.named in
    let end = closes-final g.W.Work.made c.args.self.table.shared.key.value _ _ c.args.seat.id c.args.seat.me.0 c.close_with-closed.ensures.values.2 named.0 named.1
    c.requires.first c.requires.all_in c.requires.rests c.take-board.result c.take-board.ensures.value in
    subst IsSome (sym end.1) refl

pub returns : goal.returns
returns g c =
    let named = c.requires.seat.named in
    let end = closes-final g.W.Work.made c.args.self.table.shared.key.value _ _ c.args.seat.id c.args.seat.me.0 c.close_with-closed.ensures.values.2 named.0 named.1
    c.requires.first c.requires.all_in c.requires.rests c.take-board.result c.take-board.ensures.value in
    let found = end.1 in
    let taken = c.unwrap.ensures in
    let same : end.0 ≡ c.unwrap.result = cc in
    subst (Closes g.W.Work.made (sitting c.args.seat)) same end.2
