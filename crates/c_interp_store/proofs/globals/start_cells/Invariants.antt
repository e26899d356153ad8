-- The cells are those of the leaves that were passed; what was skipped ends before the leaves that are left.
use Rattle.std.proofs.Common.{◌≡◌, ◌≤◌, length, map, take, drop}
use Rattle.c_interp_store.specs.Starts.{globals_in, are_written, start_cell}
use Rattle.c_interp_store.proofs.GlobalCells.{AgreesFrom}
use Rattle.c_interp_store.proofs.globals.start_cells.Given as goal

abbrev pub invariant-loop-leaf : goal.invariant-loop-leaf
invariant-loop-leaf l = record {
  within : l.from ≤ length l.written;
  cells : l.cells.items ≡ map (start_cell (globals_in l.layouts) (are_written l.written)) (take l.leaf-index l.leaves);
  same : AgreesFrom (globals_in l.layouts) l.leaves l.leaf-index (are_written l.written) (drop l.from (are_written l.written));
}
