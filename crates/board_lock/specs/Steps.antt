-- What each step of the lock tells.
use Rattle.std.specs.Prelude.{◌≡◌, ◌≢◌, ℕ, ◌+◌, ◌<◌, ◌⊎◌, true, false, Bool, Option, None, Some, List, [], ◌∷◌, ◌++◌}
use Rattle.atomic_table.specs.Table.{Me, Step, rest}
use Rattle.board_core.specs.declared.event.Event.{Event}
use Rattle.board_core.specs.Board.{IsLegal}
use Rattle.board_core.specs.History.{History, program_of}
use Rattle.board_core.specs.OwnEvents.{own_events}
use Rattle.board_lock.specs.declared.view.View.{View}
use Rattle.board_lock.specs.Rule.{opening, IsBeginning}

-- what a seat has: its view, and the slots that are out with it
abbrev pub Part : (W M : Type 0) → Type 0
Part W M = Me (Option (History W)) (View W M)

module _ {W M : Type 0} where
  -- the view with other fronts, own events, ticket and turn
  abbrev pub moved : View W M → List Event → List Event → List Event → Option ℕ → Bool → View W M
  moved view front other_front own ticket has_turn =
      record {
        program = view.program;
        number = view.number;
        front = front;
        other_front = other_front;
        own = own;
        taken = view.taken;
        ticket = ticket;
        has_turn = has_turn;
        splits = view.splits;
      }

  abbrev pub waiting : ℕ → View W M → View W M
  waiting ticket view = moved view view.front view.other_front view.own (Some ticket) view.has_turn

  abbrev pub on_turn : List Event → View W M → View W M
  on_turn log view = moved view log view.other_front view.own view.ticket true

  abbrev pub noted : Event → View W M → View W M
  noted event view = moved view (view.front ++ event ∷ []) view.other_front (view.own ++ event ∷ []) view.ticket view.has_turn

  abbrev pub rested : View W M → View W M
  rested view = moved view view.front view.other_front view.own None false

  abbrev pub compared : List Event → View W M → View W M
  compared front view = moved view front [] view.own view.ticket view.has_turn

  -- one seat more was split off
  abbrev pub splitter : View W M → View W M
  splitter view =
      record {
        program = view.program;
        number = view.number;
        front = view.front;
        other_front = view.other_front;
        own = view.own;
        taken = view.taken;
        ticket = view.ticket;
        has_turn = view.has_turn;
        splits = view.splits + 1;
      }

  -- the seat that is split off
  abbrev pub newcomer : View W M → View W M
  newcomer view =
      record {
        program = view.program;
        number = view.splits + 1;
        front = view.front;
        other_front = [];
        own = [];
        taken = [];
        ticket = None;
        has_turn = false;
        splits = 0;
      }

  -- a seat that has taken in another one, and has both fronts
  abbrev pub taking_in : View W M → View W M → View W M
  taking_in view other =
      record {
        program = view.program;
        number = view.number;
        front = view.front;
        other_front = other.front;
        own = view.own;
        taken = view.taken ++ (other.number, other.own) ∷ other.taken;
        ticket = view.ticket;
        has_turn = view.has_turn;
        splits = view.splits;
      }

  -- the ticket is the number that was found
  abbrev pub draws : Step (Option (History W)) → Part W M → ℕ → Part W M → Type 0
  draws step before found now = now ≡ (waiting found before.0, before.1)

  -- the seat has the turn, and the slot has the board of its program with the whole history
  pub record Enters (made : W → ℕ → List M → M) (before now : Part W M) : Type 0 where
    pub board : History W
    pub program_is : before.0.program ≡ Some (opening board)
    pub legal : IsLegal (program_of made board) board.events
    pub begins : IsBeginning before.0.front board.events
    pub own : own_events before.0.number board.events ≡ before.0.own
    pub known : before.0.number < board.workers
    pub now_is : now ≡ (on_turn board.events before.0, (0, Some board) ∷ before.1)

  abbrev pub looks : (W → ℕ → List M → M) → Step (Option (History W)) → Part W M → ℕ → Part W M → Type 0
  looks made step before found now = (before.0.ticket ≡ Some found → Enters made before now) × (before.0.ticket ≢ Some found → now ≡ before)

  abbrev pub notes : Event → Step (Option (History W)) → Part W M → ℕ → Part W M → Type 0
  notes event step before found now = now ≡ (noted event before.0, before.1)

  abbrev pub leaves : Step (Option (History W)) → Part W M → ℕ → Part W M → Type 0
  leaves step before found now = now ≡ (rested before.0, rest before.1)

  -- one of the two fronts is kept, of which both are beginnings
  pub record Compares (before now : Part W M) : Type 0 where
    pub front : List Event
    pub is_one : (front ≡ before.0.front) ⊎ (front ≡ before.0.other_front)
    pub begins : IsBeginning before.0.front front
    pub other_begins : IsBeginning before.0.other_front front
    pub now_is : now ≡ (compared front before.0, before.1)

  abbrev pub compares : Step (Option (History W)) → Part W M → ℕ → Part W M → Type 0
  compares step before found now = Compares before now
