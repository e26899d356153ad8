-- What contracts see of a seat.
use Rattle.std.specs.Prelude.{◌≡◌, ℕ, ◌+◌, ◌<◌, ◌≤◌, ◌⊎◌, true, false, Bool, Option, None, Some, List, [], ◌∷◌, ◌++◌}
use Rattle.std.specs.List.{All}
use Rattle.atomic_table.specs.Seated.{TableId}
use Rattle.atomic_table.specs.declared.shared.Seat.{Seat}
use Rattle.board_core.specs.declared.event.Event.{Event}
use Rattle.board_core.specs.Board.{IsLegal}
use Rattle.board_core.specs.History.{History, program_of}
use Rattle.board_core.specs.OwnEvents.{own_events}
use Rattle.board_lock.specs.declared.view.View.{View}
use Rattle.board_lock.specs.Rule.{opening, Holds, IsBeginning}

-- A seat: the board that it is a seat of, without its events; its number; the history as it last saw it; the events by
-- its number; each number that it has taken in, with the events by it; whether it has the turn; how many seats it has split.
pub record Sitting (W : Type 0) : Type 0 where
  pub program : Option (History W)
  pub number : ℕ
  pub front : List Event
  pub own : List Event
  pub taken : List (ℕ × List Event)
  pub has_turn : Bool
  pub splits : ℕ

-- the first seat of a board
abbrev pub first_sitting : {W : Type 0} → History W → Sitting W
first_sitting board = record { program = Some (opening board); number = 0; front = []; own = []; taken = []; has_turn = false; splits = 0 }

-- the seat has the turn, and has seen this history
abbrev pub with_turn : {W : Type 0} → List Event → Sitting W → Sitting W
with_turn log seat = record { program = seat.program; number = seat.number; front = log; own = seat.own; taken = seat.taken; has_turn = true; splits = seat.splits }

-- an event more was noted
abbrev pub with_noted : {W : Type 0} → Event → Sitting W → Sitting W
with_noted event seat =
    record {
      program = seat.program;
      number = seat.number;
      front = seat.front ++ event ∷ [];
      own = seat.own ++ event ∷ [];
      taken = seat.taken;
      has_turn = seat.has_turn;
      splits = seat.splits;
    }

abbrev pub without_turn : {W : Type 0} → Sitting W → Sitting W
without_turn seat = record { program = seat.program; number = seat.number; front = seat.front; own = seat.own; taken = seat.taken; has_turn = false; splits = seat.splits }

-- one seat more was split off
abbrev pub with_split : {W : Type 0} → Sitting W → Sitting W
with_split seat =
    record { program = seat.program; number = seat.number; front = seat.front; own = seat.own; taken = seat.taken; has_turn = seat.has_turn; splits = seat.splits + 1 }

-- the seat that is split off
abbrev pub split_from : {W : Type 0} → Sitting W → Sitting W
split_from seat = record { program = seat.program; number = seat.splits + 1; front = seat.front; own = []; taken = []; has_turn = false; splits = 0 }

-- the other seat was taken in, and this front is kept
abbrev pub with_taken : {W : Type 0} → List Event → Sitting W → Sitting W → Sitting W
with_taken front other seat =
    record {
      program = seat.program;
      number = seat.number;
      front = front;
      own = seat.own;
      taken = seat.taken ++ (other.number, other.own) ∷ other.taken;
      has_turn = seat.has_turn;
      splits = seat.splits;
    }

-- one of the two fronts is kept, of which both are beginnings
pub record TakesIn {W : Type 0} (seat other now : Sitting W) : Type 0 where
  pub front : List Event
  pub is_one : (front ≡ seat.front) ⊎ (front ≡ other.front)
  pub begins : IsBeginning seat.front front
  pub other_begins : IsBeginning other.front front
  pub now_is : now ≡ with_taken front other seat

-- The board is of the program that the seat names. Its history is legal and begins with the front of the seat, the
-- events by the number of the seat are its own, and the number is that of a worker.
pub record IsTaken {W M : Type 0} (made : W → ℕ → List M → M) (seat : Sitting W) (board : History W) : Type 0 where
  pub program_is : seat.program ≡ Some (opening board)
  pub legal : IsLegal (program_of made board) board.events
  pub begins : IsBeginning seat.front board.events
  pub own : own_events seat.number board.events ≡ seat.own
  pub known : seat.number < board.workers

-- The board is of the program that the seat names. Its history is legal and begins with the front of the seat, the
-- events by each number that the seat holds are its own list, it holds each number that was split off, and there is none
-- by another number.
pub record Closes {W M : Type 0} (made : W → ℕ → List M → M) (seat : Sitting W) (board : History W) : Type 0 where
  pub program_is : seat.program ≡ Some (opening board)
  pub legal : IsLegal (program_of made board) board.events
  pub begins : IsBeginning seat.front board.events
  pub own : own_events seat.number board.events ≡ seat.own
  pub taken : All (λ taken. own_events taken.0 board.events ≡ taken.1) seat.taken
  pub each : (number : ℕ) → number ≤ seat.splits → (number ≡ seat.number) ⊎ Holds seat.taken number
  pub no_other : (number : ℕ) → seat.splits < number → own_events number board.events ≡ []

module _ {W M : Type 0} where
  abbrev pub sitting_of : View W M → Sitting W
  sitting_of view = record { program = view.program; number = view.number; front = view.front; own = view.own; taken = view.taken; has_turn = view.has_turn; splits = view.splits }

  abbrev pub sitting : Seat (Option (History W)) (View W M) → Sitting W
  sitting seat = sitting_of seat.me.0

  abbrev pub first_view : History W → View W M
  first_view board =
      record {
        program = Some (opening board);
        number = 0;
        front = [];
        other_front = [];
        own = [];
        taken = [];
        ticket = None;
        has_turn = false;
        splits = 0;
      }

  -- with the turn the seat has a ticket and the place of the board, which is out with the caller; else it has neither
  abbrev pub HasItsPart : Bool → Seat (Option (History W)) (View W M) → Type 0
  HasItsPart true seat = ((ticket : ℕ) × (seat.me.0.ticket ≡ Some ticket)) × (seat.me.1 ≡ (0, None) ∷ [])
  HasItsPart false seat = (seat.me.0.ticket ≡ None) × (seat.me.1 ≡ [])

  -- the seat is one of this lock, and no call of it is under way
  pub record IsSeatOf (lock : TableId) (seat : Seat (Option (History W)) (View W M)) : Type 0 where
    pub same : seat.table_id ≡ lock
    pub named : (board : History W) × (seat.me.0.program ≡ Some (opening board))
    pub compared : seat.me.0.other_front ≡ []
    pub part : HasItsPart seat.me.0.has_turn seat

  -- the board is of the program of the seat, and its history is the front of the seat
  abbrev pub IsBoardOf : Seat (Option (History W)) (View W M) → History W → Type 0
  IsBoardOf seat board = (seat.me.0.program ≡ Some (opening board)) × (board.events ≡ seat.me.0.front)
