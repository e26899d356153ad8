use Rattle.std.proofs.Common.{◌≡◌, ◌++◌, take, drop, map}
use Rattle.c_interp_store.specs.Cells.{zero_cell}
use Rattle.c_interp_store.proofs.cell.clear_cells.Given as goal

abbrev pub invariant-loop-cell : goal.invariant-loop-cell
invariant-loop-cell l = l.cells ≡ map zero_cell (take l.cell-index l.initial.cells) ++ drop l.cell-index l.initial.cells
