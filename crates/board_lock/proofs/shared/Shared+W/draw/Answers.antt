use Rattle.std.proofs.Common.{arith}
use Rattle.board_lock.proofs.PartLemmas.{rests}
use Rattle.board_lock.proofs.StepLemmas.{draws-step}
use Rattle.board_lock.proofs.shared.Shared+W.draw.Goals as goal

pub fetch_add-requires : goal.fetch_add-requires
fetch_add-requires g c =
    let words = c.args.self.now.sized.0 in
    let named = c.requires.seat.named in let mine = rests _ c.args.seat.now c.requires.rests c.requires.seat in (
      c.requires.seat.same,
      omega arith,
      draws-step g.W.Work.made c.args.self.now.table.shared.key.value _ c.args.seat.now.id c.args.seat.now.me named.0 named.1 mine.0 c.requires.rests,
    )
