-- Boards as they are opened, the results of all jobs, and what the one worker of a board does.
use Rattle.std.specs.Prelude.{◌≡◌, ℕ, ◌<◌, List, [], length, slice_get}
use Rattle.board_core.specs.Board.{Program, Held, job_at}
use Rattle.board_core.specs.Answers.{answer}
use Rattle.board_core.specs.Calls.{SomebodyStopped}
use Rattle.board_core.specs.History.{History, state_of}

-- a work as it is opened for so many workers
abbrev pub opened : {W : Type 0} → (workers : ℕ) → (ranks : List ℕ) → (deps : List (List ℕ)) → W → History W
opened workers ranks deps work = record { ranks = ranks; deps = deps; workers = workers; work = work; events = [] }

-- these are the results of all jobs, in order, by the recursion on ranks
pub record AreResults {M : Type 0} (program : Program M) (results : List M) : Type 0 where
  pub count : length results ≡ length program.deps
  pub each : (j : ℕ) → j < length program.deps → slice_get results j ≡ answer program j

-- One worker has the board, no job is held, and nobody has stopped.
pub record IsBetweenJobs {W M : Type 0} (made : W → ℕ → List M → M) (history : History W) : Type 0 where
  pub workers : history.workers ≡ 1
  pub free : (j worker : ℕ) → ¬ (job_at (state_of made history) j ≡ Held worker)
  pub going : ¬ SomebodyStopped history.events

-- a later history of the same program
pub record GoesOn {W : Type 0} (old new : History W) : Type 0 where
  pub ranks : new.ranks ≡ old.ranks
  pub deps : new.deps ≡ old.deps
  pub workers : new.workers ≡ old.workers
  pub work : new.work ≡ old.work
  pub longer : length old.events < length new.events
