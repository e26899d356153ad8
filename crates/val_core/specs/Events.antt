-- What a run does that others can observe: the bytes that it writes and takes, and the stacks of active calls.
use Rattle.std.specs.Prelude.{◌≡◌, ℕ, max, List, [], ◌∷◌, ◌++◌}
use Rattle.std.specs.List.{sum_by}

-- A byte that is written; a byte that is taken from the input; or the calls that are active as one begins, by their
-- functions' numbers, the outermost first.
pub data Event : Type 0 where
  wrote : (byte : ℕ) → Event
  took : (byte : ℕ) → Event
  met : (stack : List ℕ) → Event

-- the bytes that are written, in order
abbrev pub output : List Event → List ℕ
output [] = []
output (wrote b ∷ es) = b ∷ output es
output (took b ∷ es) = output es
output (met s ∷ es) = output es

-- the greatest sum of frame sizes over the stacks that are met
abbrev pub deepest : (sizes : ℕ → ℕ) → List Event → ℕ
deepest sizes [] = 0
deepest sizes (wrote b ∷ es) = deepest sizes es
deepest sizes (took b ∷ es) = deepest sizes es
deepest sizes (met s ∷ es) = max (sum_by sizes s) (deepest sizes es)

-- the events within a call of function `f`, which is active at each of them
abbrev pub beneath : (f : ℕ) → List Event → List Event
beneath f [] = []
beneath f (wrote b ∷ es) = wrote b ∷ beneath f es
beneath f (took b ∷ es) = took b ∷ beneath f es
beneath f (met s ∷ es) = met (f ∷ s) ∷ beneath f es

-- a call of function `f` begins, and then these events come
abbrev pub called : (f : ℕ) → List Event → List Event
called f es = met (f ∷ []) ∷ beneath f es

-- one list goes on where the other ends
abbrev pub IsPrefixOf : {A : Type 0} → List A → List A → Type 0
IsPrefixOf {A} xs ys = (rest : List A) × (xs ++ rest ≡ ys)
