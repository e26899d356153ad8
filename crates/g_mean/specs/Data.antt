-- What an edge of the graph carries while it runs.
use Rattle.std.specs.Prelude.{ℕ, zero, suc, List, [], ◌∷◌, ◌++◌, map, slice_index_or}
use Rattle.val_core.specs.declared.values.Value.{Value}
use Rattle.val_core.specs.declared.values.Value.TheVariants.{Bad}
use Rattle.val_core.specs.Memory.{Memory}
use Rattle.val_core.specs.Answers.{Answer, Undefined}

-- a value, the memory of all blocks, or the input bytes that are left
pub data Datum : Type 0 where
  val : (value : Value) → Datum
  memory : (blocks : Memory) → Datum
  input : (left : List ℕ) → Datum

-- what stands at a port; where there is none, a value without meaning
abbrev pub at_port : List Datum → ℕ → Datum
at_port xs k = slice_index_or xs k (val Bad)

-- what a lambda takes: its arguments, the memory and the input
abbrev pub taken : List Value → Memory → List ℕ → List Datum
taken vs m i = map val vs ++ memory m ∷ input i ∷ []

-- a datum as a value: a state has no meaning as one
abbrev pub value_of : Datum → Value
value_of (val v) = v
value_of _ = Bad

abbrev pub value_at : List Datum → ℕ → Value
value_at xs k = value_of (at_port xs k)

-- What follows on a memory or on an input is undefined where there is none.
abbrev pub on_memory : {A : Type 0} → Datum → (Memory → Answer A) → Answer A
on_memory (memory m) next = next m
on_memory _ next = Undefined []

abbrev pub on_input : {A : Type 0} → Datum → (List ℕ → Answer A) → Answer A
on_input (input i) next = next i
on_input _ next = Undefined []

-- the memory changed, where the datum is one
abbrev pub with_memory : (Memory → Memory) → Datum → Datum
with_memory f (memory m) = memory (f m)
with_memory f d = d

-- the datum at a port changed
abbrev pub changed_at : ℕ → (Datum → Datum) → List Datum → List Datum
changed_at k f [] = []
changed_at zero f (x ∷ xs) = f x ∷ xs
changed_at (suc k) f (x ∷ xs) = x ∷ changed_at k f xs
