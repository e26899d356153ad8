use Rattle.std.proofs.Common.{subst}
use Rattle.std.specs.Prelude.{MatchBool}
use Rattle.board_core.specs.Board.{NobodyStopped}
use Rattle.board_core.specs.Calls.{SomebodyStopped}
use Rattle.board_core.specs.History.{History, state_of}
use Rattle.board_core.proofs.lemmas.Kept.{halted}
use Rattle.board_core.proofs.board.Board.is_halted.Goals as goal

pub returns : goal.returns
returns g c =
    let family = λ (h : History g.row.W.Denot). MatchBool c.self.inside.is_stopped (SomebodyStopped h.events × (¬ NobodyStopped (state_of g.W.Work.made h)))
    (NobodyStopped (state_of g.W.Work.made h) × (¬ SomebodyStopped h.events)) in
    subst family c.self.view_is (halted _ c.self.inside.events.items _ _ _ _ _ c.self.invariant.1)
