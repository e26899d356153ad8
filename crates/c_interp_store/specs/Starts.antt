-- What a global begins with, as the code goes over it: what is written is passed once it ends before a leaf.
use Rattle.std.specs.Prelude.{◌≡◌, ℕ, ◌+◌, nat_lt, nat_le, Bool, false, List, [], ◌∷◌, map, length, slice_get, Some}
use Rattle.val_core.specs.declared.leaf.Leaf.{Leaf}
use Rattle.val_core.specs.declared.values.Value.{Value}
use Rattle.val_core.specs.Memory.{Memory}
use Rattle.val_core.specs.Objects.{address_in}
use Rattle.c_type.specs.Layout.{Definitions, IsLaidOut}
use Rattle.c_typed.specs.declared.program.Written.{Written}
use Rattle.c_typed.specs.ProgramEncoding.{written_of}
use Rattle.c_typed.specs.Typed.{GlobalTree, WrittenTree, word_at, link_at, characters_at}
use Rattle.c_typed.specs.WellTyped.{WrittenFits}
use Rattle.c_mean.specs.Run.{leaf_value, first_block}
use Rattle.c_interp_store.specs.declared.cell.Cell.{Cell}
use Rattle.c_interp_store.specs.declared.store.Store.{Store}
use Rattle.c_interp_store.specs.Holding.{Holds, globals_of}
use Rattle.c_interp_store.specs.declared.layout.Layouts.{Layouts}

abbrev pub globals_in : Layouts → ℕ → Value
globals_in l k = address_in 0 l.globals.items k

-- the cell of a leaf as the program begins
abbrev pub start_cell : (global : ℕ → Value) → List WrittenTree → Leaf → Cell
start_cell global ws l = record { leaf = l; value = Some (leaf_value global l.offset ws) }

abbrev pub are_written : List Written → List WrittenTree
are_written ws = map written_of ws

-- what is written ends at this offset or before it
abbrev pub is_past : (offset : ℕ) → WrittenTree → Bool
is_past o (word_at at width w) = nat_lt at o
is_past o (link_at at k) = nat_lt at o
is_past o (characters_at at cs) = nat_le (at + length cs) o

abbrev pub first_is_past : (offset : ℕ) → List WrittenTree → Bool
first_is_past o [] = false
first_is_past o (w ∷ ws) = is_past o w

-- what is written stands at leaves, in order
pub record AreFit (ws : List WrittenTree) : Type 0 where
  pub leaves : List Leaf
  pub globals : ℕ
  pub from : ℕ
  pub fits : WrittenFits leaves globals from ws

abbrev pub GlobalsFit : Definitions → List GlobalTree → Type 0
GlobalsFit types gs = (k : ℕ) (g : GlobalTree) → slice_get gs k ≡ Some g → IsLaidOut types g.type × AreFit g.written

-- the memory of these globals as the program begins
abbrev pub memory_of : Definitions → (global : ℕ → Value) → List GlobalTree → Memory
memory_of types global gs = map (first_block types global) gs

abbrev pub HoldsGlobals : Definitions → (global : ℕ → Value) → List GlobalTree → Store → Type 0
HoldsGlobals types global gs s = Holds s (globals_of (memory_of types global gs)) (memory_of types global gs)
