-- Laws of the board, over every legal history.
use Rattle.std.specs.Prelude.{◌≡◌, ℕ, ◌+◌, ◌*◌, ◌<◌, ◌≤◌, ◌⊎◌, Some, option_map, List, map, length, IsSome}
use Rattle.board_core.specs.declared.event.Event.{Event}
use Rattle.board_core.specs.Board.{Held, Out, Program, job_at, result_of, results, deps_of, IsReady, IsLegal, replay}
use Rattle.board_core.specs.Answers.{IsRanked, all_some, answer}

-- after every legal history the result of each job that is out is that of the recursion on ranks
abbrev pub ResultsAreAnswers : Type 0 → Type 0
ResultsAreAnswers M =
    (program : Program M) (events : List Event) → IsRanked program → IsLegal program events
    → (j : ℕ) (made : M) → job_at (replay program events) j ≡ Out made → answer program j ≡ Some made

-- a job that is ready or held has the results of all its deps, and what is made of them is that of the recursion on
-- ranks, wherever the history goes meanwhile
abbrev pub DepsGiveAnswer : Type 0 → Type 0
DepsGiveAnswer M =
    (program : Program M) (events : List Event) → IsRanked program → IsLegal program events
    → (j : ℕ) → IsReady program (replay program events) j ⊎ ((worker : ℕ) × (job_at (replay program events) j ≡ Held worker))
    → answer program j ≡ Some (program.made j (results (replay program events) (deps_of program j)))

-- each job has a result
abbrev pub JobsHaveAnswers : Type 0 → Type 0
JobsHaveAnswers M = (program : Program M) → IsRanked program → (j : ℕ) → j < length program.deps → IsSome (answer program j)

-- The result of a job is what is made of the results of its deps.
abbrev pub AnswersComeOfDeps : Type 0 → Type 0
AnswersComeOfDeps M =
    (program : Program M) → IsRanked program
    → (j : ℕ) → answer program j ≡ option_map (program.made j) (all_some (map (answer program) (deps_of program j)))

-- where no job is ready and none is held, all jobs are out
abbrev pub IdleBoardsAreDone : Type 0 → Type 0
IdleBoardsAreDone M =
    (program : Program M) (events : List Event) → IsRanked program → IsLegal program events
    → ((j : ℕ) → ¬ IsReady program (replay program events) j)
    → ((j worker : ℕ) → ¬ (job_at (replay program events) j ≡ Held worker))
    → (j : ℕ) → j < length program.deps → IsSome (result_of (job_at (replay program events) j))

-- a legal history has at most two events for each job and one for each worker
abbrev pub HistoriesAreShort : Type 0 → Type 0
HistoriesAreShort M =
    (program : Program M) (events : List Event) → IsLegal program events
    → length events ≤ 2 * length program.deps + program.workers
