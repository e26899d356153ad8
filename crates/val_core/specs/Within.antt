-- One bounded run within another: of a program or a function, on any layer between the source and the machine.
use Rattle.std.specs.Prelude.{◌≡◌, ℕ, List, Option, None, Some}
use Rattle.val_core.specs.Values.{Value, IsLessDefined}
use Rattle.val_core.specs.Memory.{Memory}
use Rattle.val_core.specs.Events.{output, IsPrefixOf}
use Rattle.val_core.specs.Answers.{Answer, Returned, Cut, Exited, Undefined}

-- What a bounded run shows. Returns: the function gave a result back. Running: the bound did not suffice. Terminates:
-- the program ended, with a status. Fails: the run has no meaning, or stopped in another way.
pub data Behaviour (A : Type 0) : Type 0 where
  Returns : (result : A) → (output : List ℕ) → Behaviour A
  Running : (output : List ℕ) → Behaviour A
  Terminates : (output : List ℕ) → (status : ℕ) → Behaviour A
  Fails : Behaviour A

abbrev pub behaviour : {A : Type 0} → Answer A → Behaviour A
behaviour (Returned x o) = Returns x (output o)
behaviour (Cut o) = Running (output o)
behaviour (Exited o status) = Terminates (output o) status
behaviour (Undefined o) = Fails

-- The first run is within the second: both ended in the same way, or the first is running and its output is a prefix of
-- the second's. `R` relates the results.
abbrev pub Within : {A B : Type 0} → (A → B → Type 0) → Behaviour A → Behaviour B → Type 0
Within R (Returns x o) (Returns y p) = R x y × (o ≡ p)
Within R (Terminates o s) (Terminates p t) = (o ≡ p) × (s ≡ t)
Within R (Running o) (Returns y p) = IsPrefixOf o p
Within R (Running o) (Terminates p t) = IsPrefixOf o p
Within R (Running o) (Running p) = IsPrefixOf o p
Within R _ _ = ⊥

-- What a function gives back: a value, the memory, and what is left of the input.
pub record Given (V : Type 0) : Type 0 where
  pub value : V
  pub memory : Memory
  pub input : List ℕ

-- the value of a function that ended without one may be any
abbrev pub IsLessDefinedOption : Option Value → Value → Type 0
IsLessDefinedOption None y = Unit {0}
IsLessDefinedOption (Some x) y = IsLessDefined x y
