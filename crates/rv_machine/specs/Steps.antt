-- What a step and a run of the code answer, and what they leave of the machine, the input and the output.
use Rattle.std.specs.Prelude.{◌≡◌, ℕ, List, [], ◌∷◌, Option, Some, None}
use Rattle.cc_io.specs.Faults.{Increased}
use Rattle.cc_io.specs.Sink.{append}
use Rattle.cc_io.specs.Source.{prepend, IsAtEnd}
use Rattle.rv_machine.specs.Machine.{Ending, Effect, next, stop, put, get, next_effect, exit, stack, stuck}
use Rattle.rv_machine.specs.Run.{Hart, running, ended}
use Rattle.rv_machine.specs.declared.stop.Stop.{Stop}
use Rattle.rv_machine.specs.declared.stop.Stop.TheVariants.{Exit, Stack, Budget, Stuck, ReadFault, WriteFault}

-- what the output holds and the input has left, where they are known
pub record Streams : Type 0 where
  pub held : Option (List ℕ)
  pub left : Option (List ℕ)

-- what a hart does next: one whose run has ended ends again
abbrev pub hart_effect : (flags : ℕ → ℕ) → Hart → Effect
hart_effect flags (running s) = next_effect flags s
hart_effect flags (ended e) = stop e

-- the next byte of the input, or its end
abbrev pub IsTaken : Option ℕ → (left left' : Option (List ℕ)) → Type 0
IsTaken (Some byte) left left' = left ≡ prepend (byte ∷ []) left'
IsTaken None left left' = (left' ≡ left) × IsAtEnd left'

-- the instruction was done, and the run goes on
abbrev pub IsDone : Effect → Hart → (before after : Streams) → Type 0
IsDone (next s) h before after = (h ≡ running s) × (after ≡ before)
IsDone (stop e) h before after = ⊥
IsDone (put byte s) h before after =
    (h ≡ running s) × (after.held ≡ append before.held (byte ∷ [])) × (after.left ≡ before.left)
IsDone (get received) h before after =
    (taken : Option ℕ) × (h ≡ running (received taken)) × (after.held ≡ before.held) × IsTaken taken before.left after.left

-- the run ended, or had ended
abbrev pub HasEnded : Effect → Hart → (before after : Streams) → Type 0
HasEnded effect h before after = (e : Ending) × (effect ≡ stop e) × (h ≡ ended e) × (after ≡ before)

-- the instruction asks for the input, or writes
abbrev pub IsGet : Effect → Type 0
IsGet (next s) = ⊥
IsGet (stop e) = ⊥
IsGet (put byte s) = ⊥
IsGet (get received) = Unit {0}

abbrev pub IsPut : Effect → Type 0
IsPut (next s) = ⊥
IsPut (stop e) = ⊥
IsPut (put byte s) = Unit {0}
IsPut (get received) = ⊥

-- why a run stopped, by what has become of the hart
abbrev pub stop_of : Hart → Stop
stop_of (running s) = Budget
stop_of (ended (exit status)) = Exit status
stop_of (ended stack) = Stack
stop_of (ended (stuck pc why)) = Stuck pc why

-- the step came to an end of the run, or to a fault of the input or the output, and then nothing was done
abbrev pub IsStopped : Effect → (old new : Hart) → (before after : Streams) → Stop → Type 0
IsStopped effect old new before after ReadFault = IsGet effect × (new ≡ old) × (after ≡ before)
IsStopped effect old new before after WriteFault = IsPut effect × (new ≡ old) × (after ≡ before)
IsStopped effect old new before after Budget = ⊥
IsStopped effect old new before after (Exit status) = HasEnded effect new before after × (stop_of new ≡ Exit status)
IsStopped effect old new before after Stack = HasEnded effect new before after × (stop_of new ≡ Stack)
IsStopped effect old new before after (Stuck pc why) = HasEnded effect new before after × (stop_of new ≡ Stuck pc why)

-- a fault comes only where the count of its stream increased
abbrev pub HasIncreased : Stop → (reads reads' writes writes' : ℕ) → Type 0
HasIncreased ReadFault reads reads' writes writes' = Increased reads reads'
HasIncreased WriteFault reads reads' writes writes' = Increased writes writes'
HasIncreased (Exit status) reads reads' writes writes' = Unit {0}
HasIncreased Stack reads reads' writes writes' = Unit {0}
HasIncreased Budget reads reads' writes writes' = Unit {0}
HasIncreased (Stuck pc why) reads reads' writes writes' = Unit {0}
