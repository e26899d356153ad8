-- The board as a machine over events.
use Rattle.std.specs.Prelude.{◌≡◌, ℕ, ◌<◌, Bool, true, false, ◌==◌, if◌then◌else◌, Option, Some, None, List, [], ◌∷◌, length, map, replicate, slice_index_or, slice_set, Contains, IsSome}
use Rattle.std.specs.List.{filter_map}
use Rattle.board_core.specs.declared.event.Event.{Event}
use Rattle.board_core.specs.declared.event.Event.TheVariants.{Claim, Publish, Stop}

-- the state of a job
pub data Job (M : Type 0) : Type 0 where
  Open : Job M
  Held : (worker : ℕ) → Job M
  Out : (made : M) → Job M

-- The program of a board: the rank of each job, the jobs that it depends on, how many workers there are, and what the
-- result of a job is, given those of the jobs that it depends on.
pub record Program (M : Type 0) : Type 0 where
  pub ranks : List ℕ
  pub deps : List (List ℕ)
  pub workers : ℕ
  pub made : ℕ → List M → M

-- the state of each job, and which workers have stopped
pub record State (M : Type 0) : Type 0 where
  pub jobs : List (Job M)
  pub stopped : List Bool

module _ {M : Type 0} where
  abbrev pub result_of : Job M → Option M
  result_of Open = None
  result_of (Held worker) = None
  result_of (Out made) = Some made

  abbrev pub job_at : State M → ℕ → Job M
  job_at state j = slice_index_or state.jobs j Open

  abbrev pub deps_of : Program M → ℕ → List ℕ
  deps_of program j = slice_index_or program.deps j []

  -- the results of these jobs, in this order
  abbrev pub results : State M → List ℕ → List M
  results state js = filter_map (λ j. result_of (job_at state j)) js

  -- an open job whose deps are all out
  pub record IsReady (program : Program M) (state : State M) (j : ℕ) : Type 0 where
    pub inside : j < length state.jobs
    pub still_open : job_at state j ≡ Open
    pub deps_out : (d : ℕ) → Contains (deps_of program j) d → IsSome (result_of (job_at state d))

  -- the least of the jobs that are ready
  pub record IsNext (program : Program M) (state : State M) (j : ℕ) : Type 0 where
    pub ready : IsReady program state j
    pub least : (k : ℕ) → k < j → ¬ IsReady program state k

  abbrev pub HoldsNone : State M → ℕ → Type 0
  HoldsNone state worker = (j : ℕ) → ¬ (job_at state j ≡ Held worker)

  abbrev pub HasStopped : State M → ℕ → Type 0
  HasStopped state worker = slice_index_or state.stopped worker false ≡ true

  abbrev pub NobodyStopped : State M → Type 0
  NobodyStopped state = (worker : ℕ) → ¬ HasStopped state worker

  -- when a worker may claim a job
  pub record MayClaim (program : Program M) (state : State M) (worker j : ℕ) : Type 0 where
    pub known : worker < program.workers
    pub idle : HoldsNone state worker
    pub going : NobodyStopped state
    pub next : IsNext program state j

  -- when an event may happen
  abbrev pub MayHappen : Program M → State M → Event → Type 0
  MayHappen program state (Claim worker j) = MayClaim program state worker j
  MayHappen program state (Publish worker j) = (worker < program.workers) × (job_at state j ≡ Held worker)
  MayHappen program state (Stop worker) = (worker < program.workers) × (¬ HasStopped state worker)

  -- a job after a worker stops
  abbrev pub released : ℕ → Job M → Job M
  released worker Open = Open
  released worker (Held holder) = if holder == worker then Open else Held holder
  released worker (Out made) = Out made

  -- the state after an event
  abbrev pub after : Program M → State M → Event → State M
  after program state (Claim worker j) = record { jobs = slice_set state.jobs j (Held worker); stopped = state.stopped }
  after program state (Publish worker j) =
      record { jobs = slice_set state.jobs j (Out (program.made j (results state (deps_of program j)))); stopped = state.stopped }
  after program state (Stop worker) =
      record { jobs = map (released worker) state.jobs; stopped = slice_set state.stopped worker true }

  -- every job is open, and nobody has stopped
  abbrev pub start : Program M → State M
  start program = record { jobs = replicate (length program.deps) Open; stopped = replicate program.workers false }

  abbrev pub replay_from : Program M → State M → List Event → State M
  replay_from program state [] = state
  replay_from program state (event ∷ events) = replay_from program (after program state event) events

  -- the state after a history
  abbrev pub replay : Program M → List Event → State M
  replay program events = replay_from program (start program) events

  abbrev pub IsLegalFrom : Program M → State M → List Event → Type 0
  IsLegalFrom program state [] = Unit {0}
  IsLegalFrom program state (event ∷ events) = MayHappen program state event × IsLegalFrom program (after program state event) events

  -- each event may happen in the state after those before it
  abbrev pub IsLegal : Program M → List Event → Type 0
  IsLegal program events = IsLegalFrom program (start program) events
