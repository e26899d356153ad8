-- The blocks of the code as those of the definition of memory.
use Rattle.std.specs.Prelude.{ℕ, ◌==◌, Bool, true, if◌then◌else◌, List, [], ◌∷◌, map, Option, None, Some}
use Rattle.val_core.specs.Memory as m
use Rattle.val_core.specs.Memory.{BlockShape}
use Rattle.c_interp_store.specs.declared.block.Block.{Block}
use Rattle.c_interp_store.specs.declared.cell.Cell.{Cell}
use Rattle.c_interp_store.specs.declared.shape.Shape.{Shape}
use Rattle.c_interp_store.specs.Cells.{cells_of}

-- what is listed lives
abbrev pub whole_block : (size : ℕ) → (fixed : Bool) → List Cell → m.Block
whole_block size fixed cs = record { size = size; cells = cells_of cs; live = true; fixed = fixed }

abbrev pub block_of : Block → m.Block
block_of b = whole_block b.size b.fixed b.cells.items

abbrev pub number_of : Block → ℕ
number_of b = b.number

-- the block of this number among those that are listed
abbrev pub listed : (number : ℕ) → List Block → Option m.Block
listed n [] = None
listed n (b ∷ bs) = if b.number == n then Some (block_of b) else listed n bs

abbrev pub shape_of : Shape → BlockShape
shape_of s = record { size = s.size; leaves = s.leaves.items }

abbrev pub shapes_of : List Shape → List BlockShape
shapes_of ss = map shape_of ss
