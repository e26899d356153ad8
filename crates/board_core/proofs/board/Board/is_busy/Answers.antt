use Rattle.std.proofs.Common.{ℕ, subst}
use Rattle.std.specs.Prelude.{MatchBool}
use Rattle.board_core.specs.Board.{IsReady}
use Rattle.board_core.specs.Calls.{AllOut, SomeHeld}
use Rattle.board_core.specs.History.{History, program_of, state_of}
use Rattle.board_core.proofs.lemmas.Kept.{busy}
use Rattle.board_core.proofs.board.Board.is_busy.Goals as goal

pub returns : goal.returns
returns g c =
    let family = λ (h : History g.row.W.Denot). MatchBool c.is_some_held.result (SomeHeld (state_of g.W.Work.made h) × (¬ AllOut (program_of g.W.Work.made h) (state_of g.W.Work.made h)))
    ((¬ SomeHeld (state_of g.W.Work.made h))
    × (((j : ℕ) → ¬ IsReady (program_of g.W.Work.made h) (state_of g.W.Work.made h) j) → AllOut (program_of g.W.Work.made h) (state_of g.W.Work.made h))) in
    subst family c.self.view_is (busy _ c.self.inside.events.items _ _ _ _ _ c.self.invariant.1 c.is_some_held.result _ c.as_slice.ensures.value c.is_some_held.ensures)
