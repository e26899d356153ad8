use Rattle.std.proofs.Common.{sym}
use Rattle.c_interp_store.proofs.Cells.{other_width, no_offset}
use Rattle.c_interp_store.proofs.cell.cell_index.Goals as goal

pub returns-in_default : goal.returns-in_default
returns-in_default c = other_width c.args.cells.now c.args.width c.args.offset c.in-Some.i _ c.requires c.in-Some.ensures.some (sym c.if-is_at-2.ensures)

pub returns-in_default-2 : goal.returns-in_default-2
returns-in_default-2 c = no_offset c.args.cells.now c.args.width c.args.offset (c.in_default.ensures.none c.requires)
