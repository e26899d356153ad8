-- What the calls of a board do.
use Rattle.std.specs.Prelude.{◌≡◌, ℕ, ◌<◌, ◌≤◌, ◌⊎◌, List, [], ◌∷◌, ◌++◌, length, slice_index, slice_index_or, Contains, IsSome}
use Rattle.board_core.specs.declared.event.Event.{Event}
use Rattle.board_core.specs.declared.event.Event.TheVariants.{Claim, Stop}
use Rattle.board_core.specs.Board.{Program, State, Held, job_at, result_of, results, deps_of, IsReady, IsNext, NobodyStopped, MayClaim}
use Rattle.board_core.specs.History.{History, program_of, state_of}

-- the same program, one event later
abbrev pub with_event : {W : Type 0} → History W → Event → History W
with_event history event =
    record {
      ranks = history.ranks;
      deps = history.deps;
      workers = history.workers;
      work = history.work;
      events = history.events ++ event ∷ [];
    }

-- the worker may claim this job, holds it now, and has the results of its deps
pub record Claims {W M : Type 0} (made : W → ℕ → List M → M) (old new : History W) (worker j : ℕ) (given : List M) : Type 0 where
  pub may : MayClaim (program_of made old) (state_of made old) worker j
  pub happens : new ≡ with_event old (Claim worker j)
  pub results_are : given ≡ results (state_of made old) (deps_of (program_of made old) j)

abbrev pub SomebodyStopped : List Event → Type 0
SomebodyStopped events = (worker : ℕ) × Contains events (Stop worker)

module _ {M : Type 0} where
  abbrev pub SomeHeld : State M → Type 0
  SomeHeld state = (j : ℕ) × (worker : ℕ) × (job_at state j ≡ Held worker)

  abbrev pub AllOut : Program M → State M → Type 0
  AllOut program state = (j : ℕ) → j < length program.deps → IsSome (result_of (job_at state j))

  -- nobody has stopped, no job is ready, and some job is held
  pub record IsWaiting (program : Program M) (state : State M) : Type 0 where
    pub going : NobodyStopped state
    pub unready : (j : ℕ) → ¬ IsReady program state j
    pub busy : SomeHeld state

  -- nobody has stopped, and all jobs are out
  pub record IsDone (program : Program M) (state : State M) : Type 0 where
    pub going : NobodyStopped state
    pub all_out : AllOut program state

  -- a job that has deps may be claimed next
  pub record IsNextWithDeps (program : Program M) (state : State M) : Type 0 where
    pub chosen : ℕ
    pub going : NobodyStopped state
    pub next : IsNext program state chosen
    pub some_deps : 0 < length (deps_of program chosen)

-- a dep that is no job, or whose rank is not smaller
abbrev pub IsBadDep : List ℕ → ℕ → ℕ → Type 0
IsBadDep ranks j d = (length ranks ≤ d) ⊎ (slice_index ranks j ≤ slice_index ranks d)

-- the first of these deps of a job that is bad
pub record IsFirstBadDep (ranks : List ℕ) (deps : List ℕ) (j d : ℕ) : Type 0 where
  pub index : ℕ
  pub inside : index < length deps
  pub value : slice_index deps index ≡ d
  pub bad : IsBadDep ranks j d
  pub earlier : (e : ℕ) → e < index → ¬ IsBadDep ranks j (slice_index deps e)

abbrev pub NoBadDep : List ℕ → List ℕ → ℕ → Type 0
NoBadDep ranks deps j = (e : ℕ) → e < length deps → ¬ IsBadDep ranks j (slice_index deps e)

-- the first bad dep of all, in order of job and then of list
pub record IsFirstBad (ranks : List ℕ) (deps : List (List ℕ)) (j d : ℕ) : Type 0 where
  pub inside : j < length deps
  pub first : IsFirstBadDep ranks (slice_index_or deps j []) j d
  pub earlier : (k : ℕ) → k < j → NoBadDep ranks (slice_index_or deps k []) k
