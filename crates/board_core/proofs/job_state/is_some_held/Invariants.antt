use Rattle.std.proofs.Common.{◌≡◌, ℕ, ◌<◌}
use Rattle.board_core.specs.declared.job_state.JobState.TheVariants.{Held}
use Rattle.board_core.specs.JobStates.{job_state_at}
use Rattle.board_core.proofs.job_state.is_some_held.Given as goal

abbrev pub invariant-loop-job_state : goal.invariant-loop-job_state
invariant-loop-job_state l = (j worker : ℕ) → j < l.job_state-index → ¬ (job_state_at l.job_states j ≡ Held worker)
