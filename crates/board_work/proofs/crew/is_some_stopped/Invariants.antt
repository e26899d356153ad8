use Rattle.std.proofs.Common.{◌≡◌, ◌<◌, false}
use Rattle.board_work.specs.Workers.{Each}
use Rattle.board_work.proofs.crew.is_some_stopped.Given as goal

abbrev pub invariant-loop-worker : goal.invariant-loop-worker
invariant-loop-worker g l = Each (λ position worker. position < l.worker-index → worker.stopped ≡ false) l.workers
