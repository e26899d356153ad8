use Rattle.std.proofs.Common.{arith}
use Rattle.board_lock.proofs.StepLemmas.{looks-step}
use Rattle.board_lock.proofs.shared.Shared+W.look.Goals as goal

pub load-requires : goal.load-requires
load-requires g c =
    let words = c.args.self.now.sized.0 in (
      c.requires.lock,
      omega arith,
      looks-step g.W.Work.made c.args.self.now.table.shared.key.value _ c.args.seat.now.id c.args.seat.now.me c.requires.named.0 c.requires.named.1 c.requires.rests,
    )
