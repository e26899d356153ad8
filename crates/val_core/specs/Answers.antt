-- Answers of bounded runs: what a part of a program, of a graph or of linear code gives within a bound. An answer holds
-- the events of this part alone, at every ending.
use Rattle.std.specs.Prelude.{ℕ, List, [], ◌∷◌, ◌++◌, Option, None, Some}
use Rattle.val_core.specs.Values.{Value, Num}
use Rattle.val_core.specs.Events.{Event, called}

-- Returned: the part ended and gives a result. Cut: the bound did not suffice. Exited: the program ended, with a status.
-- Undefined: what follows these events has no meaning.
pub data Answer (A : Type 0) : Type 0 where
  Returned : (result : A) → (did : List Event) → Answer A
  Cut : (did : List Event) → Answer A
  Exited : (did : List Event) → (status : ℕ) → Answer A
  Undefined : (did : List Event) → Answer A

-- these events came before
abbrev pub before : {A : Type 0} → List Event → Answer A → Answer A
before [] a = a
before (e ∷ es) (Returned x o) = Returned x ((e ∷ es) ++ o)
before (e ∷ es) (Cut o) = Cut ((e ∷ es) ++ o)
before (e ∷ es) (Exited o status) = Exited ((e ∷ es) ++ o) status
before (e ∷ es) (Undefined o) = Undefined ((e ∷ es) ++ o)

-- where a part ended, what follows on its result
abbrev pub then_on : {A B : Type 0} → Answer A → (A → Answer B) → Answer B
then_on (Returned x o) next = before o (next x)
then_on (Cut o) next = Cut o
then_on (Exited o status) next = Exited o status
then_on (Undefined o) next = Undefined o

-- What follows on a number, or on what may be undefined, is undefined where there is none.
abbrev pub on_number : {A : Type 0} → Value → (ℕ → Answer A) → Answer A
on_number (Num w) next = next w
on_number _ next = Undefined []

abbrev pub on_defined : {A X : Type 0} → Option X → (X → Answer A) → Answer A
on_defined (Some x) next = next x
on_defined None next = Undefined []

-- a call of function `f`, whose body gives this answer
abbrev pub active : {A : Type 0} → (f : ℕ) → Answer A → Answer A
active f (Returned x o) = Returned x (called f o)
active f (Cut o) = Cut (called f o)
active f (Exited o status) = Exited (called f o) status
active f (Undefined o) = Undefined (called f o)

-- what was done
abbrev pub events : {A : Type 0} → Answer A → List Event
events (Returned x o) = o
events (Cut o) = o
events (Exited o status) = o
events (Undefined o) = o

abbrev pub IsUndefined : {A : Type 0} → Answer A → Type 0
IsUndefined (Undefined o) = Unit {0}
IsUndefined _ = ⊥

-- a result, where there is one, has this property
abbrev pub Gives : {A : Type 0} → (A → Type 0) → Answer A → Type 0
Gives P (Returned x o) = P x
Gives P _ = Unit {0}
