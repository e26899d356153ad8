-- A step that remembers whether the end of the input was met, so that the input ends once.
use Rattle.std.specs.Prelude.{◌≡◌, ℕ, Bool, true, false, List, [], ◌∷◌, Option, Some, None}
use Rattle.cc_io.specs.Sink.{append}
use Rattle.cc_io.specs.Source.{prepend, IsAtEnd}
use Rattle.rv_machine.specs.Machine.{Effect, next, stop, put, get}
use Rattle.rv_machine.specs.Run.{Hart, running}

-- what the output holds, what the input has left, and whether its end was met
pub record Port : Type 0 where
  pub held : Option (List ℕ)
  pub left : Option (List ℕ)
  pub closed : Bool

abbrev pub IsReceived : Option ℕ → (before after : Port) → Type 0
IsReceived (Some byte) before after =
    (before.left ≡ prepend (byte ∷ []) after.left) × (before.closed ≡ false) × (after.closed ≡ false)
IsReceived None before after = (after.left ≡ before.left) × IsAtEnd after.left × (after.closed ≡ true)

-- as `IsDone`
abbrev pub IsDoneAt : Effect → Hart → (before after : Port) → Type 0
IsDoneAt (next s) h before after = (h ≡ running s) × (after ≡ before)
IsDoneAt (stop e) h before after = ⊥
IsDoneAt (put byte s) h before after =
    (h ≡ running s) × (after ≡ record before { held = append before.held (byte ∷ []) })
IsDoneAt (get received) h before after =
    (taken : Option ℕ) × (h ≡ running (received taken)) × (after.held ≡ before.held) × IsReceived taken before after
