-- Workers of a shared board: what is asked of each, and what is known of it when it has returned.
use Rattle.std.specs.Prelude.{◌≡◌, ℕ, ◌<◌, ◌≤◌, true, false, Option, None, Some, List, length, slice_index_or, vec_capacity}
use Rattle.base.specs.Limits.{most_jobs}
use Rattle.atomic_table.specs.Seated.{TableId}
use Rattle.atomic_table.specs.declared.shared.Seat.{Seat}
use Rattle.board_core.specs.Board.{replay}
use Rattle.board_core.specs.Calls.{AllOut, SomebodyStopped}
use Rattle.board_core.specs.History.{History, program_of}
use Rattle.board_core.specs.OwnEvents.{held_from}
use Rattle.board_lock.specs.declared.view.View.{View}
use Rattle.board_lock.specs.Rule.{opening}
use Rattle.board_lock.specs.Seats.{Sitting, sitting, IsSeatOf}
use Rattle.board_work.specs.declared.worker.WorkerOf.{WorkerOf}

-- each element, with its position
abbrev pub Each : {A : Type 0} → (ℕ → A → Type 0) → List A → Type 0
Each {A} holds xs = (k : ℕ) (d : A) → k < length xs → holds k (slice_index_or xs k d)

-- each element of two lists of one length, with its position
abbrev pub EachOf : {A : Type 0} → (ℕ → A → A → Type 0) → List A → List A → Type 0
EachOf {A} holds xs ys = (k : ℕ) (d : A) → k < length xs → holds k (slice_index_or xs k d) (slice_index_or ys k d)

-- an element, with its position
pub record SomeAt {A : Type 0} (holds : ℕ → A → Type 0) (xs : List A) : Type 0 where
  pub position : ℕ
  pub inside : position < length xs
  pub holds_there : (d : A) → holds position (slice_index_or xs position d)

-- a worker for this type of work, with results of this one
abbrev pub WorkerFor : (W M : Type 0) → Type 0
WorkerFor W M = WorkerOf (Seat (Option (History W)) (View W M)) M

-- the seat is of the same program, with the same number, and has split and taken in as many
pub record IsSameSeat {W : Type 0} (old new : Sitting W) : Type 0 where
  pub program : new.program ≡ old.program
  pub number : new.number ≡ old.number
  pub splits : new.splits ≡ old.splits
  pub taken : new.taken ≡ old.taken

-- of the program of the seat all jobs are out after the history that it last saw
pub record AllJobsOut {W M : Type 0} (made : W → ℕ → List M → M) (seat : Sitting W) : Type 0 where
  pub board : History W
  pub program_is : seat.program ≡ Some (opening board)
  pub all_out : AllOut (program_of made board) (replay (program_of made board) seat.front)

module _ {W M : Type 0} where
  -- ---- what is asked of a worker at a position

  -- it has room for the results of all jobs of a board
  abbrev pub HasRoom : ℕ → WorkerFor W M → Type 0
  HasRoom position worker = most_jobs ≤ vec_capacity worker.deps

  -- its seat is the seat of this lock whose number is the position
  abbrev pub IsSeated : TableId → ℕ → WorkerFor W M → Type 0
  IsSeated lock position worker = IsSeatOf lock worker.seat × ((sitting worker.seat).number ≡ position)

  abbrev pub HasNoTurn : ℕ → WorkerFor W M → Type 0
  HasNoTurn position worker = (sitting worker.seat).has_turn ≡ false

  -- by its own events it holds no job
  abbrev pub HoldsNoJob : ℕ → WorkerFor W M → Type 0
  HoldsNoJob position worker = held_from None (sitting worker.seat).own ≡ None

  -- its seat is at a board of this work
  abbrev pub WorksAt : W → ℕ → WorkerFor W M → Type 0
  WorksAt work position worker = (board : History W) × ((sitting worker.seat).program ≡ Some (opening board)) × (board.work ≡ work)

  -- it can take the board
  pub record IsResting (lock : TableId) (position : ℕ) (worker : WorkerFor W M) : Type 0 where
    pub room : HasRoom position worker
    pub seated : IsSeated lock position worker
    pub turn : HasNoTurn position worker

  -- it may be served
  pub record MayWork (lock : TableId) (work : W) (position : ℕ) (worker : WorkerFor W M) : Type 0 where
    pub rests : IsResting lock position worker
    pub idle : HoldsNoJob position worker
    pub program : WorksAt work position worker

  -- ---- what is known of it when it has returned

  -- a stop stands in the history that it last saw
  abbrev pub HasSeenStop : ℕ → WorkerFor W M → Type 0
  HasSeenStop position worker = SomebodyStopped (sitting worker.seat).front

  -- there is none, and all jobs are out
  pub record IsFinished (made : W → ℕ → List M → M) (position : ℕ) (worker : WorkerFor W M) : Type 0 where
    pub going : ¬ HasSeenStop position worker
    pub all_out : AllJobsOut made (sitting worker.seat)

  -- It holds no job. All jobs are out, or it has seen a stop and says so.
  pub record HasEnded (made : W → ℕ → List M → M) (position : ℕ) (worker : WorkerFor W M) : Type 0 where
    pub idle : HoldsNoJob position worker
    pub stopped : worker.stopped ≡ true → HasSeenStop position worker
    pub finished : worker.stopped ≡ false → IsFinished made position worker

  -- it has ended by the same seat, and may be served again
  pub record HasWorked (made : W → ℕ → List M → M) (lock : TableId) (work : W) (position : ℕ) (old new : WorkerFor W M) : Type 0 where
    pub may : MayWork lock work position new
    pub same : IsSameSeat (sitting old.seat) (sitting new.seat)
    pub ended : HasEnded made position new
