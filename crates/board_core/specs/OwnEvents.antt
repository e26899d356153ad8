-- What a worker knows of the board from its own events alone.
use Rattle.std.specs.Prelude.{◌≡◌, ℕ, ◌↔◌, ◌==◌, ◌||◌, Bool, true, false, Option, None, Some, List, [], ◌∷◌}
use Rattle.std.specs.List.{filter}
use Rattle.board_core.specs.declared.event.Event.{Event}
use Rattle.board_core.specs.declared.event.Event.TheVariants.{Claim, Publish, Stop}
use Rattle.board_core.specs.Board.{Held, Program, job_at, HasStopped, replay, IsLegal}

-- the worker whose call an event was
abbrev pub worker_of : Event → ℕ
worker_of (Claim worker j) = worker
worker_of (Publish worker j) = worker
worker_of (Stop worker) = worker

-- the events of a worker, in their order
abbrev pub own_events : (worker : ℕ) → List Event → List Event
own_events worker events = filter (λ event. worker_of event == worker) events

-- the job that an event leaves its worker holding
abbrev pub held_after : Event → Option ℕ
held_after (Claim worker j) = Some j
held_after (Publish worker j) = None
held_after (Stop worker) = None

-- the job that events of one worker, which held this one before, leave it holding: the last one decides
abbrev pub held_from : Option ℕ → List Event → Option ℕ
held_from held [] = held
held_from held (event ∷ events) = held_from (held_after event) events

abbrev pub is_stop : Event → Bool
is_stop (Claim worker j) = false
is_stop (Publish worker j) = false
is_stop (Stop worker) = true

abbrev pub has_stop : List Event → Bool
has_stop [] = false
has_stop (event ∷ events) = is_stop event || has_stop events

-- a worker holds a job exactly where its own events leave it holding that job
abbrev pub OwnEventsDecide : Type 0 → Type 0
OwnEventsDecide M =
    (program : Program M) (events : List Event) → IsLegal program events
    → (worker j : ℕ) → (job_at (replay program events) j ≡ Held worker) ↔ (held_from None (own_events worker events) ≡ Some j)

-- a worker has stopped exactly where its own events have a stop
abbrev pub OwnStopsDecide : Type 0 → Type 0
OwnStopsDecide M =
    (program : Program M) (events : List Event) → IsLegal program events
    → (worker : ℕ) → HasStopped (replay program events) worker ↔ (has_stop (own_events worker events) ≡ true)

-- a worker holds one job at most
abbrev pub WorkersHoldOne : Type 0 → Type 0
WorkersHoldOne M =
    (program : Program M) (events : List Event) → IsLegal program events
    → (worker j k : ℕ) → job_at (replay program events) j ≡ Held worker → job_at (replay program events) k ≡ Held worker → j ≡ k
