use Rattle.std.proofs.Common.{◌≡◌, ◌++◌, map, take, drop}
use Rattle.board_core.specs.JobStates.{released_state}
use Rattle.board_core.proofs.job_state.release.Given as goal

abbrev pub invariant-loop-job_state : goal.invariant-loop-job_state
invariant-loop-job_state l =
    l.job_states ≡ map (released_state l.worker) (take l.job_state-index l.initial.job_states) ++ drop l.job_state-index l.initial.job_states
