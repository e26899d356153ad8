use Rattle.std.proofs.Common.{ap, ◌∙◌, subst, map, arith}
use Rattle.std.specs.Arc.{arc_value}
use Rattle.std.proofs.lemmas.Result.{IfOk-weaker}
use Rattle.board_core.specs.History.{program_of}
use Rattle.board_core.specs.Alone.{AreResults}
use Rattle.board_work.proofs.jobs.do_jobs_by_workers.Goals as goal

pub driven-requires-clause-fresh : goal.driven-requires-clause-fresh
driven-requires-clause-fresh g c κs within = ap (λ h. h.events) c.in_ok-board.ensures

pub driven-requires-clause-some_worker : goal.driven-requires-clause-some_worker
driven-requires-clause-some_worker g c κs within = omega (arith, c.requires.some_worker, ap (λ h. h.workers) c.in_ok-board.ensures)

pub driven-requires-clause-work : goal.driven-requires-clause-work
driven-requires-clause-work g c κs within = ap (λ h. h.work) c.in_ok-board.ensures

pub returns : goal.returns
returns g c =
    let same = c.in_ok-closed.ensures.same ∙ ap (program_of g.W.Work.made) c.in_ok-board.ensures in
    IfOk-weaker c.all_results.result _ _ (λ all are. subst (λ p. AreResults p (map arc_value all.items)) same are) c.all_results.ensures
