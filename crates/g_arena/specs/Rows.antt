-- How the rows of an arena are made.
use Rattle.std.specs.Prelude.{◌≡◌, ℕ, ◌+◌, ◌<◌, Bool, if◌then◌else◌, List, [], ◌∷◌, ◌++◌, length, slice_get}
use Rattle.std.specs.declared.option.Option.TheVariants.{Some}
use Rattle.g_arena_def.specs.Flat.{FlatNode}
use Rattle.g_arena_use.specs.Lists.{PlainList}
use Rattle.g_arena_use.specs.Plain.{PlainSlot}

-- the results of each region of a slot are a list
abbrev pub HasResults : List PlainList → PlainSlot → Type 0
HasResults ls s = (r : ℕ) → r < length s.regions → s.results + r < length ls

abbrev pub HaveResults : List PlainList → List PlainSlot → Type 0
HaveResults ls ss = (k : ℕ) (s : PlainSlot) → slice_get ss k ≡ Some s → HasResults ls s

-- one more row, if it is there
abbrev pub with_row : Bool → FlatNode → List FlatNode → List FlatNode
with_row live x xs = if live then xs ++ x ∷ [] else xs
