use Rattle.std.proofs.Common.{ap, ◌∙◌}
use Rattle.std.specs.Prelude.{Ok, map}
use Rattle.std.specs.Arc.{arc_value}
use Rattle.board_core.proofs.OneJob.{held-claimed, given-claimed, between-again, goes-on}
use Rattle.board_core.proofs.jobs.step.Goals as goal

pub finish-requires-clause-work : goal.finish-requires-clause-work
finish-requires-clause-work g c κs within =
    let claims = c.claim.ensures.job c.in-Job.job (c.in_ok-job.was ∙ ap Ok c.in-Job.is) in
    ap (λ h. h.work) claims.happens ∙ c.requires.work

pub finish-requires-clause-holds : goal.finish-requires-clause-holds
finish-requires-clause-holds g c κs within =
    let claims = c.claim.ensures.job c.in-Job.job (c.in_ok-job.was ∙ ap Ok c.in-Job.is) in
    held-claimed c.events_go_on.ensures g.W.Work.made c.args.board.now c.in-Job.job (map arc_value c.claim.new.deps_out.items) c.claim.new.self claims

pub finish-requires-clause-callees : goal.finish-requires-clause-callees
finish-requires-clause-callees g c κs within =
    let claims = c.claim.ensures.job c.in-Job.job (c.in_ok-job.was ∙ ap Ok c.in-Job.is) in
    ap (map arc_value) c.deref.ensures.value
    ∙ given-claimed c.events_go_on.ensures g.W.Work.made c.args.board.now c.in-Job.job (map arc_value c.claim.new.deps_out.items) c.claim.new.self claims

pub returns-in_ok-finish-in-Job-clause-between : goal.returns-in_ok-finish-in-Job-clause-between
returns-in_ok-finish-in-Job-clause-between g c =
    let claims = c.claim.ensures.job c.in-Job.job (c.in_ok-job.was ∙ ap Ok c.in-Job.is) in
    between-again c.events_go_on.ensures g.W.Work.made c.args.board.now c.in-Job.job (map arc_value c.claim.new.deps_out.items) c.claim.new.self claims
    c.finish.new.board c.in_ok-finish-in-Job.ensures c.requires.between

pub returns-in_ok-finish-in-Job-clause-one : goal.returns-in_ok-finish-in-Job-clause-one
returns-in_ok-finish-in-Job-clause-one g c is =
    let claims = c.claim.ensures.job c.in-Job.job (c.in_ok-job.was ∙ ap Ok c.in-Job.is) in
    goes-on c.events_go_on.ensures g.W.Work.made c.args.board.now c.in-Job.job (map arc_value c.claim.new.deps_out.items) c.claim.new.self claims
    c.finish.new.board c.in_ok-finish-in-Job.ensures
