use Rattle.std.proofs.Common.{◌≡◌, true, subst}
use Rattle.board_core.specs.Board.{HoldsNone}
use Rattle.board_core.specs.History.{History, state_of}
use Rattle.board_core.proofs.lemmas.Kept.{no_holder}
use Rattle.board_core.proofs.board.Board.is_idle.Goals as goal

pub returns : goal.returns
returns g c =
    let family = λ (h : History g.row.W.Denot). ((c.is_no_holder.result ≡ true) → HoldsNone (state_of g.W.Work.made h) c.args.worker)
    × (HoldsNone (state_of g.W.Work.made h) c.args.worker → (c.is_no_holder.result ≡ true)) in
    subst family c.self.view_is (no_holder _ c.self.inside.events.items _ _ _ _ _ c.self.invariant.1 c.is_no_holder.result c.args.worker _ c.as_slice.ensures.value c.is_no_holder.ensures)
