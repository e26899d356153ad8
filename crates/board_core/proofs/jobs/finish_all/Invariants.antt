use Rattle.std.proofs.Common.{◌≡◌, ◌+◌, ◌*◌, ◌-◌, ◌≤◌, length, vec_capacity}
use Rattle.base.specs.Limits.{most_jobs}
use Rattle.board_core.specs.History.{program_of}
use Rattle.board_core.specs.Alone.{IsBetweenJobs}
use Rattle.board_core.proofs.jobs.finish_all.Given as goal

abbrev pub invariant-loop-callees : goal.invariant-loop-callees
invariant-loop-callees g l =
    (l.board.work ≡ l.work) × (most_jobs ≤ vec_capacity l.callees) × IsBetweenJobs g.W.Work.made l.board
    × (program_of g.W.Work.made l.board ≡ program_of g.W.Work.made l.initial.board)

abbrev pub decreases-loop-callees : goal.decreases-loop-callees
decreases-loop-callees g l = 2 * length l.board.deps + l.board.workers - length l.board.events
