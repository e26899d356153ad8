-- The counters of the nesting, from the bottom of the stack in an array.
use Rattle.std.specs.Prelude.{ℕ, zero, suc, List, [], ◌∷◌, slice_index}

-- those up to an index, the top first
abbrev pub below : List ℕ → ℕ → List ℕ
below counts zero = []
below counts (suc n) = slice_index counts n ∷ below counts n

abbrev pub stack : List ℕ → ℕ → List ℕ
stack counts top = slice_index counts top ∷ below counts top

-- with the top counter 0
abbrev pub cleared : List ℕ → List ℕ
cleared [] = []
cleared (top ∷ below) = 0 ∷ below
