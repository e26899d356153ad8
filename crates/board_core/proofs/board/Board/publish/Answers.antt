use Rattle.std.proofs.Common.{◌≡◌, Some, sym, subst, arith}
use Rattle.std.specs.Prelude.{option_map}
use Rattle.std.specs.Arc.{arc_value}
use Rattle.std.proofs.lemmas.List.{map-set}
use Rattle.board_core.specs.declared.event.Event.TheVariants.{Publish}
use Rattle.board_core.specs.Board.{job_at, Held, results, deps_of}
use Rattle.board_core.specs.History.{History, program_of, state_of}
use Rattle.board_core.proofs.lemmas.Kept.{kept-publish, kept-logged, kept-made, room-for, holder-known}
use Rattle.board_core.proofs.board.Board.publish.Goals as goal

pub log-requires : goal.log-requires
log-requires g c =
    let family = λ (h : History g.row.W.Denot). job_at (state_of g.W.Work.made h) c.args.job ≡ Held c.args.worker in
    let held = subst family (sym c.self.view_is) c.requires.holds in
    let known = holder-known _ c.self.inside.events.items _ _ _ _ _ c.self.invariant.1 c.args.worker c.args.job held in
    omega (arith, room-for _ c.self.inside.events.items _ _ _ _ _ c.self.invariant.1 (Publish c.args.worker c.args.job) (known, held), c.self.inside.events.ok.0)

pub invariant_of-self : goal.invariant_of-self
invariant_of-self g c =
    let family = λ (h : History g.row.W.Denot). job_at (state_of g.W.Work.made h) c.args.job ≡ Held c.args.worker in
    let held = subst family (sym c.self.view_is) c.requires.holds in
    let result = λ (h : History g.row.W.Denot). arc_value c.args.made ≡ g.W.Work.made h.work c.args.job (results (state_of g.W.Work.made h) (deps_of (program_of g.W.Work.made h) c.args.job)) in
    let defined = subst result (sym c.self.view_is) c.requires.defined in
    let kept = kept-publish _ c.self.inside.events.items _ _ _ _ _ c.self.invariant.1 c.args.worker c.args.job (arc_value c.args.made) held defined in (
      c.self.invariant.0,
      kept-logged _ _ _ _ _ _ _ _ _ (kept-made _ _ _ _ _ _ _ _ kept (map-set (option_map arc_value) c.self.inside.results.items c.args.job (Some c.args.made))) c.log.ensures.items c.log.ensures.room,
    )
