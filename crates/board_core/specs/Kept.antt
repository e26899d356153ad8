-- The invariant of a board: the states of its jobs are those after its history.
use Rattle.std.specs.Prelude.{◌≡◌, ℕ, ◌+◌, ◌*◌, ◌≤◌, Bool, true, false, Option, List, length, map, Contains}
use Rattle.base.specs.Limits.{most_jobs}
use Rattle.board_core.specs.declared.event.Event.{Event}
use Rattle.board_core.specs.declared.event.Event.TheVariants.{Stop}
use Rattle.board_core.specs.declared.job_state.JobState.{JobState}
use Rattle.board_core.specs.declared.job_state.JobState.TheVariants.{Open as OpenState, Held as HeldState, Out as OutState}
use Rattle.board_core.specs.Board.{Job, Open, Held, Out, Program, result_of, HasStopped, NobodyStopped, IsLegal, replay}
use Rattle.board_core.specs.Answers.{IsRanked}
use Rattle.board_core.specs.JobStates.{AllCheckedOut}

module _ {M : Type 0} where
  abbrev pub job_state_of : Job M → JobState
  job_state_of Open = OpenState
  job_state_of (Held worker) = HeldState worker
  job_state_of (Out made) = OutState

  pub record IsKept (program : Program M) (events : List Event) (job_states : List JobState) (results : List (Option M)) (checked : List ℕ) (is_stopped : Bool) (capacity : ℕ) : Type 0 where
    pub ranked : IsRanked program
    pub few : length program.deps ≤ most_jobs
    pub legal : IsLegal program events
    pub job_states_are : job_states ≡ map job_state_of (replay program events).jobs
    pub results_are : results ≡ map result_of (replay program events).jobs
    pub checked_length : length checked ≡ length program.deps
    pub checked_out : AllCheckedOut program.deps job_states checked
    pub stopped : is_stopped ≡ true → (worker : ℕ) × Contains events (Stop worker) × HasStopped (replay program events) worker
    pub going : is_stopped ≡ false → NobodyStopped (replay program events) × ((worker : ℕ) → ¬ Contains events (Stop worker))
    pub room : 2 * length program.deps + program.workers ≤ capacity
