use Rattle.std.proofs.Common.{◌<◌, List, map, length, ap, sym, subst, arith}
use Rattle.board_core.specs.declared.event.Event.TheVariants.{Stop}
use Rattle.board_core.specs.declared.job_state.JobState.{JobState}
use Rattle.board_core.specs.Board.{HasStopped}
use Rattle.board_core.specs.JobStates.{released_state}
use Rattle.board_core.specs.History.{History, state_of}
use Rattle.board_core.proofs.lemmas.Kept.{kept-stop, kept-logged, kept-job_states, room-for, written-back}
use Rattle.board_core.proofs.board.Board.stop.Goals as goal

pub log-requires : goal.log-requires
log-requires g c =
    let family = λ (h : History g.row.W.Denot). (c.args.worker < h.workers) × (¬ HasStopped (state_of g.W.Work.made h) c.args.worker) in
    let may = subst family (sym c.self.view_is) (c.requires.known, c.requires.going) in
    omega (arith, room-for _ c.self.inside.events.items _ _ _ _ _ c.self.invariant.1 (Stop c.args.worker) may, c.self.inside.events.ok.0)

pub invariant_of-self : goal.invariant_of-self
invariant_of-self g c =
    let family = λ (h : History g.row.W.Denot). (c.args.worker < h.workers) × (¬ HasStopped (state_of g.W.Work.made h) c.args.worker) in
    let may = subst family (sym c.self.view_is) (c.requires.known, c.requires.going) in
    let kept = kept-stop _ c.self.inside.events.items _ _ _ _ _ c.self.invariant.1 c.args.worker may.0 may.1 in
    let job_states = c.self.inside.job_states in
    let put = written-back job_states.items c.release.new.job_states _ job_states.ok.0
    (omega (arith, c.release.auto.job_states, ap (λ (xs : List JobState). length xs) c.as_mut_slice.ensures.value)) in
    let lent = kept-job_states _ _ _ _ _ _ _ _ kept (ap (map (released_state c.args.worker)) c.as_mut_slice.ensures.value) in
    let freed = kept-job_states _ _ _ _ _ _ _ _ lent c.release.ensures in
    (c.self.invariant.0, kept-logged _ _ _ _ _ _ _ _ _ (kept-job_states _ _ _ _ _ _ _ _ freed put) c.log.ensures.items c.log.ensures.room)
