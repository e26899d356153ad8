-- All workers of one shared board.
use Rattle.std.specs.Prelude.{◌≡◌, ℕ, ◌+◌, ◌<◌, false, Option, Some, List, [], length, slice_index_or}
use Rattle.atomic_table.specs.Seated.{TableId}
use Rattle.atomic_table.specs.declared.shared.Seat.{Seat}
use Rattle.board_core.specs.declared.event.Event.{Event}
use Rattle.board_core.specs.Board.{IsLegal}
use Rattle.board_core.specs.History.{History, program_of}
use Rattle.board_lock.specs.Rule.{opening, IsBeginning}
use Rattle.board_lock.specs.declared.view.View.{View}
use Rattle.board_lock.specs.Seats.{Sitting, IsSeatOf, sitting}
use Rattle.board_work.specs.Workers.{Each, WorkerFor, IsResting, HoldsNoJob}

module _ {W M : Type 0} where
  -- it may take the board of this lock, of this program; it holds no job, and its seat has taken in no other
  pub record IsMember (lock : TableId) (board : History W) (position : ℕ) (worker : WorkerFor W M) : Type 0 where
    pub rests : IsResting lock position worker
    pub idle : HoldsNoJob position worker
    pub program : (sitting worker.seat).program ≡ Some (opening board)
    pub taken : (sitting worker.seat).taken ≡ []

  -- the workers of all seats of this lock: the first has split off the seats of all others
  pub record IsCrew (lock : TableId) (board : History W) (workers : List (WorkerFor W M)) : Type 0 where
    pub some : 0 < length workers
    pub each : Each (IsMember lock board) workers
    pub counted : (d : WorkerFor W M) → length workers ≡ (sitting (slice_index_or workers 0 d).seat).splits + 1

  -- the board that they had, with a legal history that begins as the first of them last saw it
  pub record IsDismissed (made : W → ℕ → List M → M) (board : History W) (workers : List (WorkerFor W M)) (closed : History W) : Type 0 where
    pub program : opening closed ≡ opening board
    pub legal : IsLegal (program_of made closed) closed.events
    pub begins : (d : WorkerFor W M) → IsBeginning (sitting (slice_index_or workers 0 d).seat).front closed.events

-- the first seat of a board that has no event, once it has split off so many
abbrev pub first_with : {W : Type 0} → History W → ℕ → Sitting W
first_with board splits = record { program = Some (opening board); number = 0; front = []; own = []; taken = []; has_turn = false; splits = splits }

module _ {W M : Type 0} where
  -- the first seat, which has seen this front, while so many others are left to take in
  pub record IsTakingIn (lock : TableId) (board : History W) (front : List Event) (left : ℕ) (seat : Seat (Option (History W)) (View W M)) : Type 0 where
    pub of : IsSeatOf lock seat
    pub turn : (sitting seat).has_turn ≡ false
    pub number : (sitting seat).number ≡ 0
    pub program : (sitting seat).program ≡ Some (opening board)
    pub counted : (sitting seat).splits ≡ length (sitting seat).taken + left
    pub begins : IsBeginning front (sitting seat).front
