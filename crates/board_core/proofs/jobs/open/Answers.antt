use Rattle.std.proofs.Common.{ap, ◌∙◌}
use Rattle.std.specs.Prelude.{Err}
use Rattle.board_core.specs.History.{dep_lists, program_of}
use Rattle.board_core.specs.Alone.{opened}
use Rattle.board_core.proofs.OneJob.{none-bad}
use Rattle.board_core.proofs.jobs.open.Goals as goal

pub unreachable-requires : goal.unreachable-requires
unreachable-requires g c =
    let bad = c.in-Err-BadDeps in
    none-bad (program_of g.W.Work.made (opened c.args.workers c.args.ranks.now (dep_lists c.args.deps.now) c.args.work.now)) c.requires.ranked bad.field-0-0 bad.field-0-1
    ((c.open.ensures.bad bad.field-0-0 bad.field-0-1).0 (bad.is ∙ ap Err bad.field-0-is))
