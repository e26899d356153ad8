-- The cells of the code as those of the definition of memory.
use Rattle.std.specs.Prelude.{◌≡◌, ℕ, ◌<◌, true, List, map, length, slice_index_or, None, Some}
use Rattle.val_core.specs.declared.leaf.Leaf.{Leaf}
use Rattle.val_core.specs.declared.values.Value.TheVariants.{Num}
use Rattle.val_core.specs.Memory as m
use Rattle.val_core.specs.Memory.{is_at}
use Rattle.c_interp_store.specs.declared.cell.Cell.{Cell}

abbrev pub cell_of : Cell → m.Cell
cell_of c = record { leaf = c.leaf; value = c.value }

abbrev pub cells_of : List Cell → List m.Cell
cells_of cs = map cell_of cs

abbrev pub offset_of : Cell → ℕ
offset_of c = c.leaf.offset

-- the cell at this index is the leaf of this width and offset
pub record IsCellAt (cs : List Cell) (width offset i : ℕ) : Type 0 where
  pub inside : i < length cs
  pub is_at : (d : Cell) → is_at width offset (cell_of (slice_index_or cs i d)) ≡ true

-- the same leaf with the value 0
abbrev pub zero_cell : Cell → Cell
zero_cell c = record { leaf = c.leaf; value = Some (Num 0) }

-- the leaf without a value
abbrev pub blank_cell : Leaf → Cell
blank_cell l = record { leaf = l; value = None }
