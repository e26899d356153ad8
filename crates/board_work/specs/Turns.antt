-- A worker between two calls: what its seat says of the board that it has, and of the job that it holds.
use Rattle.std.specs.Prelude.{◌≡◌, ◌⊎◌, ℕ, ◌<◌, true, false, None, Some, List, [], ◌∷◌, ◌++◌}
use Rattle.board_core.specs.Answers.{answer}
use Rattle.board_core.specs.Calls.{SomebodyStopped}
use Rattle.board_core.specs.History.{History, program_of}
use Rattle.board_core.specs.declared.event.Event.{Event}
use Rattle.board_core.specs.declared.event.Event.TheVariants.{Claim, Publish, Stop}
use Rattle.board_core.specs.OwnEvents.{own_events, held_from, has_stop}
use Rattle.board_lock.specs.Rule.{opening}
use Rattle.board_lock.specs.Seats.{Sitting}
use Rattle.board_work.specs.declared.turns.Hand.{Hand}
use Rattle.board_work.specs.declared.turns.Hand.TheVariants.{Empty, Full}
use Rattle.board_work.specs.declared.turns.Next.{Next}
use Rattle.board_work.specs.declared.turns.Next.TheVariants.{Make, Sleep, Done, Stopped}
use Rattle.board_work.specs.Workers.{AllJobsOut}

-- the seat has the turn and this board, and has noted each of its events
pub record IsAtBoard {W : Type 0} (seat : Sitting W) (board : History W) : Type 0 where
  pub turn : seat.has_turn ≡ true
  pub program_is : seat.program ≡ Some (opening board)
  pub front_is : board.events ≡ seat.front
  pub own : own_events seat.number board.events ≡ seat.own
  pub known : seat.number < board.workers

-- by its own events it holds this job, and has not stopped
pub record Holds {W : Type 0} (seat : Sitting W) (job : ℕ) : Type 0 where
  pub held : held_from None seat.own ≡ Some job
  pub going : has_stop seat.own ≡ false

-- by its own events it holds none
abbrev pub IsIdle : {W : Type 0} → Sitting W → Type 0
IsIdle seat = held_from None seat.own ≡ None

module _ {W M : Type 0} (made : W → ℕ → List M → M) where
  -- this is the one result of the job in the program of the seat
  pub record IsResultOf (seat : Sitting W) (job : ℕ) (it : M) : Type 0 where
    pub board : History W
    pub program_is : seat.program ≡ Some (opening board)
    pub answer_is : answer (program_of made board) job ≡ Some it

  -- the job is one of the work, and its one result is that which is made of these
  pub record IsMadeOf (jobs : W → ℕ) (seat : Sitting W) (job : ℕ) (deps : List M) : Type 0 where
    pub board : History W
    pub program_is : seat.program ≡ Some (opening board)
    pub inside : job < jobs board.work
    pub answer_is : answer (program_of made board) job ≡ Some (made board.work job deps)

  -- nothing is in the hand of a worker that holds no job, and else the result of the job that it holds
  abbrev pub IsInHand : {A : Type 0} → (A → M) → Sitting W → Hand A → Type 0
  IsInHand value seat Empty = IsIdle seat
  IsInHand value seat (Full job it) = (held_from None seat.own ≡ Some job) × IsResultOf seat job (value it)

  -- what each answer to a claim says, where these are the results of the deps that were given
  abbrev pub IsNextFor : (W → ℕ) → Sitting W → List M → Next → Type 0
  IsNextFor jobs seat deps (Make job) = Holds seat job × IsMadeOf jobs seat job deps
  IsNextFor jobs seat deps (Sleep seen) = IsIdle seat
  IsNextFor jobs seat deps Done = IsIdle seat × (¬ SomebodyStopped seat.front) × AllJobsOut made seat
  IsNextFor jobs seat deps Stopped = IsIdle seat × SomebodyStopped seat.front

-- ---- what a worker notes while it has the board

-- it hands in what it has in hand
abbrev pub handing_in : {A : Type 0} → (worker : ℕ) → Hand A → List Event
handing_in worker Empty = []
handing_in worker (Full job it) = Publish worker job ∷ []

-- once it holds no job: that it claims one; nothing; or that it stops, where memory for a claim was refused
abbrev pub IsChosen : (worker : ℕ) → Next → List Event → Type 0
IsChosen worker (Make job) noted = noted ≡ Claim worker job ∷ []
IsChosen worker (Sleep seen) noted = noted ≡ []
IsChosen worker Done noted = noted ≡ []
IsChosen worker Stopped noted = (noted ≡ []) ⊎ (noted ≡ Stop worker ∷ [])

-- These are the first events more: what is made is handed in first, whatever the other workers have done.
pub record HandsInFirst {W A : Type 0} (worker : ℕ) (hand : Hand A) (old new : Sitting W) : Type 0 where
  pub later : List Event
  pub own_is : new.own ≡ old.own ++ handing_in worker hand ++ later

-- One turn: it hands in what it has in hand and then, holding no job, notes what follows the answer to its claim. So it
-- stops in a turn only where it holds no job.
pub record IsTurn {W A : Type 0} (worker : ℕ) (hand : Hand A) (next : Next) (old new : Sitting W) : Type 0 where
  pub chosen : List Event
  pub own_is : new.own ≡ old.own ++ handing_in worker hand ++ chosen
  pub chosen_is : IsChosen worker next chosen
