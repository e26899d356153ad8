use Rattle.std.proofs.Common.{◌≡◌, ℕ, ◌<◌, ◌≤◌, ◌-◌, length, slice_index}
use Rattle.board_core.specs.declared.job_state.JobState.TheVariants.{Out}
use Rattle.board_core.specs.JobStates.{job_state_at}
use Rattle.board_core.proofs.job_state.checked_out.Given as goal

abbrev pub invariant-loop-count : goal.invariant-loop-count
invariant-loop-count l =
    (l.count ≤ length l.deps) × ((e : ℕ) → e < l.count → job_state_at l.job_states (slice_index l.deps e) ≡ Out)

abbrev pub decreases-loop-count : goal.decreases-loop-count
decreases-loop-count l = length l.deps - l.count
