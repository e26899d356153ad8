-- The answers to a claim.
use Rattle.std.specs.Prelude.{◌<◌, List, length}
use Rattle.board_core.specs.declared.event.Event.{Event}
use Rattle.board_core.specs.declared.board.Choice.{Choice}
use Rattle.board_core.specs.declared.board.Choice.TheVariants.{Ready, Busy, Finished, Halted}
use Rattle.board_core.specs.Board.{Program, State, IsNext, NobodyStopped}
use Rattle.board_core.specs.Calls.{AllOut, IsWaiting, IsDone, SomeHeld, SomebodyStopped}

module _ {M : Type 0} where
  -- when each answer is chosen, in the state after the history
  abbrev pub IsChoice : Program M → State M → List Event → Choice → Type 0
  IsChoice program state events (Ready j) =
      NobodyStopped state × (¬ SomebodyStopped events) × (j < length program.deps) × IsNext program state j
  IsChoice program state events Busy = (¬ SomebodyStopped events) × (¬ AllOut program state) × IsWaiting program state
  IsChoice program state events Finished = (¬ SomebodyStopped events) × (¬ SomeHeld state) × IsDone program state
  IsChoice program state events Halted = SomebodyStopped events × (¬ NobodyStopped state)
