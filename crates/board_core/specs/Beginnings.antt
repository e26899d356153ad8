-- Laws of beginnings of a history of the board.
use Rattle.std.specs.Prelude.{◌≡◌, ℕ, ◌↔◌, List, [], ◌∷◌, ◌++◌}
use Rattle.board_core.specs.declared.event.Event.{Event}
use Rattle.board_core.specs.Board.{Held, Out, Program, job_at, results, deps_of, MayHappen, after, replay, replay_from, IsLegal}
use Rattle.board_core.specs.Answers.{IsRanked}

-- a history and one event more is legal exactly where the history is and the event may happen where it leads
abbrev pub HistoriesGrow : Type 0 → Type 0
HistoriesGrow M =
    (program : Program M) (events : List Event) (event : Event)
    → IsLegal program (events ++ event ∷ []) ↔ (IsLegal program events × MayHappen program (replay program events) event)

-- two lists in a row lead where the second leads from where the first does
abbrev pub ReplaysGoOn : Type 0 → Type 0
ReplaysGoOn M =
    (program : Program M) (before later : List Event)
    → replay program (before ++ later) ≡ replay_from program (replay program before) later

-- one event more leads where the event does from where the history leads
abbrev pub EventsGoOn : Type 0 → Type 0
EventsGoOn M =
    (program : Program M) (events : List Event) (event : Event)
    → replay program (events ++ event ∷ []) ≡ after program (replay program events) event

-- a beginning of a legal history is legal
abbrev pub BeginningsAreLegal : Type 0 → Type 0
BeginningsAreLegal M =
    (program : Program M) (before later : List Event) → IsLegal program (before ++ later) → IsLegal program before

-- a job that is out after a beginning is out after the whole, with the same result
abbrev pub ResultsStay : Type 0 → Type 0
ResultsStay M =
    (program : Program M) (before later : List Event) → IsLegal program (before ++ later)
    → (j : ℕ) (made : M) → job_at (replay program before) j ≡ Out made
    → job_at (replay program (before ++ later)) j ≡ Out made

-- where a worker holds a job after a beginning and after the whole, the result is the same from either
abbrev pub HeldJobsKeepResults : Type 0 → Type 0
HeldJobsKeepResults M =
    (program : Program M) (before later : List Event) → IsRanked program → IsLegal program (before ++ later)
    → (worker j : ℕ) → job_at (replay program before) j ≡ Held worker
    → job_at (replay program (before ++ later)) j ≡ Held worker
    → program.made j (results (replay program before) (deps_of program j))
    ≡ program.made j (results (replay program (before ++ later)) (deps_of program j))
