-- The names of functions.
use Rattle.std.specs.Prelude.{ℕ, List, [], slice_index_or}

-- the name of the function of this number; an empty one where there is none
abbrev pub function_name : (names : List (List ℕ)) → (f : ℕ) → List ℕ
function_name names f = slice_index_or names f []
