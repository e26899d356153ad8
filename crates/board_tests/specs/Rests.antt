-- A seat between two calls, and what an act does to a board.
use Rattle.std.specs.Prelude.{◌≡◌, ℕ, Option, None, Some, List, [], true, false, Bool}
use Rattle.atomic_table.specs.Seated.{TableId}
use Rattle.atomic_table.specs.declared.shared.Seat.{Seat}
use Rattle.board_core.specs.declared.event.Event.{Event}
use Rattle.board_core.specs.History.{History}
use Rattle.board_core.specs.Calls.{with_event}
use Rattle.board_core.specs.OwnEvents.{worker_of}
use Rattle.board_lock.specs.declared.view.View.{View}
use Rattle.board_lock.specs.Rule.{opening}

abbrev pub no_lock : TableId
no_lock = record { words = 0; slots = 0; views_name = 0; atom = 0; block = 0; offset = 0; slot_names = [] }

-- one event by this worker was added, or nothing has changed
abbrev pub IsAct : {W : Type 0} → ℕ → Bool → History W → History W → Type 0
IsAct worker true old new = (event : Event) × (worker_of event ≡ worker) × (new ≡ with_event old event)
IsAct worker false old new = new ≡ old

-- the program is the opening of a board for so many workers
abbrev pub IsProgram : {W : Type 0} → Option (History W) → ℕ → Type 0
IsProgram {W} program workers = (board : History W) × (program ≡ Some (opening board)) × (board.workers ≡ workers)

-- what is known of a seat: its lock, program, number, turn, other front and ticket, the slots that are out with it, and what
-- it has taken in
abbrev pub Facts : Type 0 → Type 0
Facts W = TableId × Option (History W) × ℕ × Bool × List Event × Option ℕ × List (ℕ × Option (History W)) × List (ℕ × List Event)

-- of a seat that has no turn, and has taken in none
abbrev pub resting : {W : Type 0} → TableId → Option (History W) → ℕ → Facts W
resting lock program number = (lock, program, number, false, [], None, [], [])

module _ {W M : Type 0} where
  -- the seat of this lock and program with this number has no turn
  abbrev pub RestsAs : TableId → Option (History W) → ℕ → Seat (Option (History W)) (View W M) → Type 0
  RestsAs lock program number seat =
      (seat.table_id ≡ lock)
      × (seat.me.0.program ≡ program)
      × (seat.me.0.number ≡ number)
      × (seat.me.0.has_turn ≡ false)
      × (seat.me.0.other_front ≡ [])
      × (seat.me.0.ticket ≡ None)
      × (seat.me.1 ≡ [])

  abbrev pub facts : Seat (Option (History W)) (View W M) → Facts W
  facts seat = (seat.table_id, seat.me.0.program, seat.me.0.number, seat.me.0.has_turn, seat.me.0.other_front, seat.me.0.ticket, seat.me.1, seat.me.0.taken)

  -- the seat has split and taken in as many as before
  abbrev pub KeepsCounts : Seat (Option (History W)) (View W M) → Seat (Option (History W)) (View W M) → Type 0
  KeepsCounts old new = (new.me.0.splits ≡ old.me.0.splits) × (new.me.0.taken ≡ old.me.0.taken)
