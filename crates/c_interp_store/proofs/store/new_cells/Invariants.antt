use Rattle.std.proofs.Common.{◌≡◌, take, map}
use Rattle.c_interp_store.specs.Cells.{blank_cell}
use Rattle.c_interp_store.proofs.store.new_cells.Given as goal

abbrev pub invariant-loop-leaf : goal.invariant-loop-leaf
invariant-loop-leaf l = l.cells.items ≡ map blank_cell (take l.leaf-index l.leaves)
