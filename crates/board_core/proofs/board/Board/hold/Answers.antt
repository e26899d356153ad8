use Rattle.std.proofs.Common.{sym, subst, arith}
use Rattle.board_core.specs.declared.event.Event.TheVariants.{Claim}
use Rattle.board_core.specs.Board.{MayClaim}
use Rattle.board_core.specs.History.{History, program_of, state_of}
use Rattle.board_core.proofs.lemmas.Kept.{kept-claim, kept-logged, room-for}
use Rattle.board_core.proofs.board.Board.hold.Goals as goal

pub log-requires : goal.log-requires
log-requires g c =
    let family = λ (h : History g.row.W.Denot). MayClaim (program_of g.W.Work.made h) (state_of g.W.Work.made h) c.args.worker c.args.job in
    let may = subst family (sym c.self.view_is) c.requires in
    omega (arith, room-for _ c.self.inside.events.items _ _ _ _ _ c.self.invariant.1 (Claim c.args.worker c.args.job) may, c.self.inside.events.ok.0)

pub invariant_of-self : goal.invariant_of-self
invariant_of-self g c =
    let family = λ (h : History g.row.W.Denot). MayClaim (program_of g.W.Work.made h) (state_of g.W.Work.made h) c.args.worker c.args.job in
    let may = subst family (sym c.self.view_is) c.requires in (
      c.self.invariant.0,
      kept-logged _ _ _ _ _ _ _ _ _ (kept-claim _ c.self.inside.events.items _ _ _ _ _ c.self.invariant.1 c.args.worker c.args.job may) c.log.ensures.items c.log.ensures.room,
    )
