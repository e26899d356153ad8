use Rattle.std.proofs.Common.{◌≡◌, ap, ◌∙◌, List, true, length, map}
use Rattle.std.specs.Vec.{with_items}
use Rattle.std.proofs.lemmas.List.{length-map, with_items_is}
use Rattle.val_core.specs.Memory as mem
use Rattle.c_interp_store.specs.Ascending.{ascends}
use Rattle.c_interp_store.specs.Cells.{offset_of, cells_of, zero_cell}
use Rattle.c_interp_store.proofs.Cells.{zeros, zeros_ascend}
use Rattle.c_interp_store.proofs.block.Block.clear.Goals as goal

pub invariant_of-self : goal.invariant_of-self
invariant_of-self c =
    let cells = c.args.self.now.cells in
    let new : (with_items cells c.clear_cells.new.cells).items
    ≡ map zero_cell cells.items = with_items_is cells c.clear_cells.new.cells (ap length c.clear_cells.ensures ∙ length-map c.deref_mut.result.now zero_cell ∙ c.deref_mut.ensures.len)
    ∙ c.clear_cells.ensures ∙ ap (map zero_cell) c.deref_mut.ensures.value in
    record { in_order = ap (ascends offset_of 0) new ∙ zeros_ascend 0 cells.items ∙ c.args.self.now.in_order }

pub returns-clause-zeroed : goal.returns-clause-zeroed
returns-clause-zeroed c =
    let cells = c.args.self.now.cells in
    let new : (with_items cells c.clear_cells.new.cells).items
    ≡ map zero_cell cells.items = with_items_is cells c.clear_cells.new.cells (ap length c.clear_cells.ensures ∙ length-map c.deref_mut.result.now zero_cell ∙ c.deref_mut.ensures.len)
    ∙ c.clear_cells.ensures ∙ ap (map zero_cell) c.deref_mut.ensures.value in
    let with_cells : List mem.Cell → mem.Block = λ cs. record { size = c.args.self.now.size; cells = cs; live = true; fixed = c.args.self.now.fixed } in
    ap with_cells (ap cells_of new ∙ zeros cells.items)
