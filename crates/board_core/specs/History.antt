-- What contracts see of a board: its program and its history.
use Rattle.std.specs.Prelude.{ℕ, List, map}
use Rattle.std.specs.declared.vec.Vec.{Vec}
use Rattle.board_core.specs.declared.event.Event.{Event}
use Rattle.board_core.specs.Board.{Program, State, replay}

-- A program, and what happened since. The work is kept in its plain form.
pub record History (W : Type 0) : Type 0 where
  pub ranks : List ℕ
  pub deps : List (List ℕ)
  pub workers : ℕ
  pub work : W
  pub events : List Event

-- the plain form of lists of deps
abbrev pub dep_lists : {A : Type 0} → List (Vec ℕ A) → List (List ℕ)
dep_lists deps = map (λ list. list.items) deps

-- the program, given what each work makes
abbrev pub program_of : {W M : Type 0} → (W → ℕ → List M → M) → History W → Program M
program_of made history =
    record { ranks = history.ranks; deps = history.deps; workers = history.workers; made = made history.work }

-- the state after the history
abbrev pub state_of : {W M : Type 0} → (W → ℕ → List M → M) → History W → State M
state_of made history = replay (program_of made history) history.events
