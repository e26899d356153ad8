use Rattle.std.proofs.Common.{sym, subst, false}
use Rattle.std.specs.List.{list_any}
use Rattle.std.proofs.Common.{◌≡◌}
use Rattle.val_core.specs.Memory.{is_at}
use Rattle.c_interp_store.specs.Cells.{cells_of, IsCellAt}
use Rattle.c_interp_store.proofs.Cells.{read_cell, none_value}
use Rattle.c_interp_store.proofs.block.Block.read.Goals as goal

pub returns-in-Some : goal.returns-in-Some
returns-in-Some c =
    let at = subst (λ cs. IsCellAt cs c.args.width c.args.offset c.in-Some.i) c.deref.ensures.value c.in-Some.ensures in
    read_cell c.args.self.now.cells.items c.args.width c.args.offset c.in-Some.i _ c.args.self.now.in_order at c.index.ensures

pub returns-in-None : goal.returns-in-None
returns-in-None c =
    let none = subst (λ cs. list_any (is_at c.args.width c.args.offset) (cells_of cs) ≡ false) c.deref.ensures.value c.in-None.ensures in
    sym (none_value c.args.width c.args.offset c.args.self.now.cells.items none)
