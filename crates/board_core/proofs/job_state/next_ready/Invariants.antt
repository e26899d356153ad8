use Rattle.std.proofs.Common.{◌≡◌, ℕ, ◌<◌, length}
use Rattle.board_core.specs.History.{dep_lists}
use Rattle.board_core.specs.JobStates.{AllCheckedOut, IsReadyState}
use Rattle.board_core.proofs.job_state.next_ready.Given as goal

abbrev pub invariant-loop-job : goal.invariant-loop-job
invariant-loop-job l =
    (length l.checked ≡ length l.job_states) × AllCheckedOut (dep_lists l.deps) l.job_states l.checked
    × ((j : ℕ) → j < l.job → ¬ IsReadyState (dep_lists l.deps) l.job_states j)
