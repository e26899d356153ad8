use Rattle.std.proofs.Common.{◌≡◌, ◌+◌, map, ap, ◌∙◌, arith}
use Rattle.std.specs.Prelude.{IsTrue}
use Rattle.std.proofs.lemmas.Result.{IfOk-weaker}
use Rattle.c_type.specs.Layout.{leaves, size}
use Rattle.c_interp_store.specs.Ascending.{ascends, leaf_offset}
use Rattle.c_interp_store.specs.Cells.{offset_of}
use Rattle.c_interp_store.specs.Starts.{globals_in, are_written, start_cell}
use Rattle.c_interp_store.proofs.Leaves.{leaves_ascend}
use Rattle.c_interp_store.proofs.GlobalCells.{cells_ascend}
use Rattle.c_interp_store.proofs.globals.cells_of.Goals as goal

pub start_cells-requires-clause-ascend : goal.start_cells-requires-clause-ascend
start_cells-requires-clause-ascend c =
    let defs = c.args.types.now in
    let t = c.args.t.now in
    ap (ascends leaf_offset 0) (c.deref.ensures.value ∙ c.in_ok-leaves.ensures)
    ∙ leaves_ascend 0 (0 + size defs t) 0 (leaves defs t) (c.leaves_are_in_order.ensures defs c.requires.defined t c.requires.laid_out.complete 0 (0, omega arith)) (omega arith)

pub returns-clause-ascend : goal.returns-clause-ascend
returns-clause-ascend c =
    let defs = c.args.types.now in
    let t = c.args.t.now in
    let up : IsTrue (ascends leaf_offset 0 c.deref.result.now) =
    ap (ascends leaf_offset 0) (c.deref.ensures.value ∙ c.in_ok-leaves.ensures)
    ∙ leaves_ascend 0 (0 + size defs t) 0 (leaves defs t) (c.leaves_are_in_order.ensures defs c.requires.defined t c.requires.laid_out.complete 0 (0, omega arith)) (omega arith) in
    let cells_from = start_cell (globals_in c.args.layouts.now) (are_written c.args.written.now) in
    IfOk-weaker c.start_cells.result (λ cells. cells.items ≡ map cells_from c.deref.result.now) (λ cells. IsTrue (ascends offset_of 0 cells.items))
    (λ cells is. ap (ascends offset_of 0) is ∙ cells_ascend (globals_in c.args.layouts.now) (are_written c.args.written.now) 0 c.deref.result.now ∙ up) c.start_cells.ensures
