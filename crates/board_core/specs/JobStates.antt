-- The states of the jobs of a board, as the code keeps them.
use Rattle.std.specs.Prelude.{◌≡◌, ℕ, ◌<◌, ◌≤◌, ◌==◌, if◌then◌else◌, List, [], length, slice_index, slice_index_or, Contains}
use Rattle.board_core.specs.declared.job_state.JobState.{JobState}
use Rattle.board_core.specs.declared.job_state.JobState.TheVariants.{Open, Held, Out}

abbrev pub job_state_at : List JobState → ℕ → JobState
job_state_at job_states j = slice_index_or job_states j Open

-- after a worker stops
abbrev pub released_state : ℕ → JobState → JobState
released_state worker Open = Open
released_state worker (Held holder) = if holder == worker then Open else Held holder
released_state worker Out = Out

-- an open job whose deps are all out
pub record IsReadyState (deps : List (List ℕ)) (job_states : List JobState) (j : ℕ) : Type 0 where
  pub inside : j < length job_states
  pub still_open : job_state_at job_states j ≡ Open
  pub deps_out : (d : ℕ) → Contains (slice_index_or deps j []) d → job_state_at job_states d ≡ Out

-- the least of the jobs that are ready
pub record IsNextState (deps : List (List ℕ)) (job_states : List JobState) (j : ℕ) : Type 0 where
  pub ready : IsReadyState deps job_states j
  pub least : (k : ℕ) → k < j → ¬ IsReadyState deps job_states k

abbrev pub IsSomeHeld : List JobState → Type 0
IsSomeHeld job_states = (j : ℕ) × (worker : ℕ) × (job_state_at job_states j ≡ Held worker)

-- the deps of each job are out, as many from the first on as the list says
abbrev pub AllCheckedOut : List (List ℕ) → List JobState → List ℕ → Type 0
AllCheckedOut deps job_states checked =
    (j : ℕ) → j < length checked
    → (slice_index checked j ≤ length (slice_index_or deps j []))
    × ((e : ℕ) → e < slice_index checked j → job_state_at job_states (slice_index (slice_index_or deps j []) e) ≡ Out)
