use Rattle.c_interp_store.proofs.Cells.{zeros_next}
use Rattle.c_interp_store.proofs.cell.clear_cells.Goals as goal

pub loop-cell-preserved : goal.loop-cell-preserved
loop-cell-preserved c = zeros_next c.args.cells.now c.loop-cell.cells c.loop-cell.cell-index _ c.loop-cell-test.true c.loop-cell.auto.cells c.loop-cell.invariant
