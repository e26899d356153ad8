use Rattle.std.proofs.Common.{◌≡◌, true, false, refl, sym, ◌∙◌, subst, arith}
use Rattle.board_core.proofs.lemmas.Kept.{written-back}
use Rattle.board_lock.specs.Locks.{lock_of}
use Rattle.board_work.specs.Workers.{Each, SomeAt, MayWork, HasSeenStop}
use Rattle.board_work.proofs.CrewLemmas.{some-stopped, none-stopped}
use Rattle.board_work.proofs.crew.work.Goals as goal

pub serve_all-requires-clause-may : goal.serve_all-requires-clause-may
serve_all-requires-clause-may g c κs within =
    subst (Each (MayWork (lock_of c.args.shared.now) c.args.work.now)) (sym c.as_mut_slice.ensures.value) c.requires.may

pub returns-then-is_some_stopped-clause-memory : goal.returns-then-is_some_stopped-clause-memory
returns-then-is_some_stopped-clause-memory g c =
    let vec = c.args.workers.now in
    let back = written-back vec.items c.serve_all.new.workers vec.len vec.ok.0 (omega (arith, c.serve_all.ensures.count, c.as_mut_slice.ensures.len, vec.ok.0)) in
    let some = subst (SomeAt (λ position worker. worker.stopped ≡ true)) (c.as_slice.ensures.value ∙ back) c.if-is_some_stopped.ensures in (
      λ e. subst (SomeAt HasSeenStop) (sym back)
          (some-stopped g.W.Work.made (lock_of c.args.shared.now) c.args.work.now _ c.serve_all.new.workers c.serve_all.ensures.count c.serve_all.ensures.each some),
      λ s. refl,
    )

pub returns-clause-memory : goal.returns-clause-memory
returns-clause-memory g c =
    let vec = c.args.workers.now in
    let back = written-back vec.items c.serve_all.new.workers vec.len vec.ok.0 (omega (arith, c.serve_all.ensures.count, c.as_mut_slice.ensures.len, vec.ok.0)) in
    let going = subst (Each (λ position worker. worker.stopped ≡ false)) (c.as_slice.ensures.value ∙ back) c.if-is_some_stopped.ensures in (
      λ e. absurd (cc),
      λ s.
          absurd (none-stopped g.W.Work.made (lock_of c.args.shared.now) c.args.work.now _ c.serve_all.new.workers c.serve_all.ensures.count c.serve_all.ensures.each going
          (subst (SomeAt HasSeenStop) back s)),
    )
