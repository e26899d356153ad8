use Rattle.std.proofs.Common.{◌<◌, length, sym, subst, refl}
use Rattle.board_core.specs.History.{History}
use Rattle.board_core.proofs.board.Board.claim.Goals as goal

pub give_deps-requires-clause-inside : goal.give_deps-requires-clause-inside
give_deps-requires-clause-inside g c κs outlive =
    let family = λ (h : History g.row.W.Denot). c.in-Ready.job < length h.deps in
    subst family (sym c.choose.ensures.same) c.in-Ready.ensures.choice.2

pub returns-clause-same : goal.returns-clause-same
returns-clause-same g c h = absurd (h c.in-Ready.job refl)
