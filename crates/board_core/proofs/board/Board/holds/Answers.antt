use Rattle.std.proofs.Common.{◌≡◌, true, subst}
use Rattle.board_core.specs.Board.{job_at, Held}
use Rattle.board_core.specs.History.{History, state_of}
use Rattle.board_core.proofs.lemmas.Kept.{holder_is}
use Rattle.board_core.proofs.board.Board.holds.Goals as goal

pub returns : goal.returns
returns g c =
    let family = λ (h : History g.row.W.Denot). ((c.is_held_by.result ≡ true) → job_at (state_of g.W.Work.made h) c.args.job ≡ Held c.args.worker)
    × (job_at (state_of g.W.Work.made h) c.args.job ≡ Held c.args.worker → (c.is_held_by.result ≡ true)) in
    subst family c.self.view_is
    (holder_is _ c.self.inside.events.items _ _ _ _ _ c.self.invariant.1 c.is_held_by.result c.args.worker c.args.job _ c.as_slice.ensures.value c.is_held_by.ensures)
