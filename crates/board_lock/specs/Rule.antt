-- The rule of the lock: one history, tickets in a row, and the board at home or with the seat that has the turn.
use Rattle.std.specs.Prelude.{◌≡◌, ◌≢◌, ℕ, ◌+◌, ◌%◌, ◌^◌, ◌<◌, ◌≤◌, ◌⊎◌, true, false, Option, None, Some, List, [], ◌∷◌, ◌++◌, length, map}
use Rattle.std.specs.List.{All, Contains}
use mathlib.Core.Option.{none, some}
use lib.ListN.{get_elem?}
use Rattle.atomic_table.specs.Table.{State}
use Rattle.board_core.specs.declared.event.Event.{Event}
use Rattle.board_core.specs.Board.{IsLegal}
use Rattle.board_core.specs.History.{History, program_of}
use Rattle.board_core.specs.OwnEvents.{own_events}
use Rattle.board_lock.specs.declared.view.View.{View}

-- the board without its events
abbrev pub opening : {W : Type 0} → History W → History W
opening board = record { ranks = board.ranks; deps = board.deps; workers = board.workers; work = board.work; events = [] }

-- the board with these events in place of its own
abbrev pub with_events : {W : Type 0} → History W → List Event → History W
with_events board events = record { ranks = board.ranks; deps = board.deps; workers = board.workers; work = board.work; events = events }

abbrev pub IsBeginning : List Event → List Event → Type 0
IsBeginning front log = (later : List Event) × (log ≡ front ++ later)

-- the number is one of these
abbrev pub Holds : List (ℕ × List Event) → ℕ → Type 0
Holds taken number = (own : List Event) × Contains taken (number, own)

-- ---- tickets

abbrev pub ticket_weight : Option ℕ → ℕ
ticket_weight None = 0
ticket_weight (Some ticket) = 1

-- how many tickets are drawn and not yet given up
abbrev pub drawn : List (Option ℕ) → ℕ
drawn [] = 0
drawn (ticket ∷ tickets) = ticket_weight ticket + drawn tickets

-- the tickets that are drawn are different numbers from the one that is served on, as many as there are
pub record IsQueue (next served : ℕ) (tickets : List (Option ℕ)) : Type 0 where
  pub next_is : next ≡ (served + drawn tickets) % 2 ^ 64
  pub within : (id ticket : ℕ) → get_elem? tickets id ≡ some (Some ticket) → (k : ℕ) × (k < drawn tickets) × (ticket ≡ (served + k) % 2 ^ 64)
  pub once : (i j ticket : ℕ) → get_elem? tickets i ≡ some (Some ticket) → get_elem? tickets j ≡ some (Some ticket) → i ≡ j

-- ---- views

abbrev pub program_weight : {W : Type 0} → Option (History W) → ℕ
program_weight None = 1
program_weight (Some program) = 0

module _ {W M : Type 0} where
  -- the view of a seat that another one has taken in
  abbrev pub spent : View W M
  spent = record { program = None; number = 0; front = []; other_front = []; own = []; taken = []; ticket = None; has_turn = false; splits = 0 }

  abbrev pub ticket_of : View W M → Option ℕ
  ticket_of view = view.ticket

  -- how many seats were taken in
  abbrev pub spents : List (View W M) → ℕ
  spents [] = 0
  spents (view ∷ views) = program_weight view.program + spents views

  abbrev pub NobodyHasTurn : List (View W M) → Type 0
  NobodyHasTurn views = (id : ℕ) (view : View W M) → get_elem? views id ≡ some view → view.has_turn ≡ false

  -- a number of a seat that was taken in, and the events by it
  abbrev pub IsTakenIn : List Event → List (View W M) → ℕ × List Event → Type 0
  IsTakenIn log views taken = (own_events taken.0 log ≡ taken.1) × (get_elem? views taken.0 ≡ some spent)

  -- what the seat with this number knows is so
  pub record IsKnown (board : History W) (log : List Event) (views : List (View W M)) (id : ℕ) (view : View W M) : Type 0 where
    pub program_is : view.program ≡ Some (opening board)
    pub number_is : view.number ≡ id
    pub front : IsBeginning view.front log
    pub other_front : IsBeginning view.other_front log
    pub own : own_events id log ≡ view.own
    pub taken : All (IsTakenIn log views) view.taken
    pub alone : (id ≡ 0) ⊎ (view.taken ≡ [])

  -- the board is out with the seat that has the turn, which knows the whole history
  pub record IsOut (log : List Event) (served : ℕ) (homes : List (mathlib.Core.Option.Option (Option (History W)))) (views : List (View W M)) : Type 0 where
    pub id : ℕ
    pub view : View W M
    pub at : get_elem? views id ≡ some view
    pub turn : view.has_turn ≡ true
    pub ticket : view.ticket ≡ Some served
    pub front : view.front ≡ log
    pub homes_are : homes ≡ none ∷ []
    pub others : (j : ℕ) (other : View W M) → j ≢ id → get_elem? views j ≡ some other → other.has_turn ≡ false

  abbrev pub IsHome : History W → List Event → List (mathlib.Core.Option.Option (Option (History W))) → List (View W M) → Type 0
  IsHome board log homes views = (homes ≡ some (Some (with_events board log)) ∷ []) × NobodyHasTurn views

  abbrev pub IsPlaced : History W → List Event → ℕ → List (mathlib.Core.Option.Option (Option (History W))) → List (View W M) → Type 0
  IsPlaced board log served homes views = IsHome board log homes views ⊎ IsOut log served homes views

  pub record IsOneHistory (made : W → ℕ → List M → M) (board : History W) (table : State (Option (History W)) (View W M)) : Type 0 where
    pub log : List Event
    pub legal : IsLegal (program_of made board) log
    pub next : ℕ
    pub served : ℕ
    pub words_are : table.words ≡ next ∷ served ∷ length log ∷ []
    pub queue : IsQueue next served (map ticket_of table.views)
    pub few : length table.views ≤ board.workers
    pub small : board.workers < 2 ^ 32
    pub counts : (view : View W M) → get_elem? table.views 0 ≡ some view → (length table.views ≡ view.splits + 1) × (spents table.views ≡ length view.taken)
    pub all_taken : (id : ℕ) (view : View W M) → get_elem? table.views 0 ≡ some view → get_elem? table.views id ≡ some spent → Holds view.taken id
    pub each : (id : ℕ) (view : View W M) → get_elem? table.views id ≡ some view → (view ≡ spent) ⊎ IsKnown board log table.views id view
    pub later : (id : ℕ) → length table.views ≤ id → own_events id log ≡ []
    pub placed : IsPlaced board log served table.homes table.views
