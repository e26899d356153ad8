use Rattle.std.proofs.Common.{sym, ap, subst, List, true}
use Rattle.val_core.specs.Memory as mem
use Rattle.c_interp_store.specs.Cells.{offset_of, IsCellAt}
use Rattle.c_interp_store.proofs.Cells.{set_ascends, some_any, written_cell}
use Rattle.c_interp_store.proofs.block.Block.write.Goals as goal

pub invariant_of-self : goal.invariant_of-self
invariant_of-self c =
    let at = subst (λ cs. IsCellAt cs c.args.width c.args.offset c.in-Some.i) c.deref.ensures.value c.in-Some.ensures in
    record { in_order = set_ascends 0 c.args.self.now.cells.items c.in-Some.i _ c.index_mut.result.now at.inside (ap offset_of c.index_mut.ensures.value) c.args.self.now.in_order }

pub returns-in-Some-clause-there : goal.returns-in-Some-clause-there
returns-in-Some-clause-there c =
    let at = subst (λ cs. IsCellAt cs c.args.width c.args.offset c.in-Some.i) c.deref.ensures.value c.in-Some.ensures in
    sym (some_any c.args.width c.args.offset c.args.self.now.cells.items c.in-Some.i c.index_mut.result.now at.inside (at.is_at c.index_mut.result.now))

pub returns-in-Some-clause-written : goal.returns-in-Some-clause-written
returns-in-Some-clause-written c = λ done.
    let at = subst (λ cs. IsCellAt cs c.args.width c.args.offset c.in-Some.i) c.deref.ensures.value c.in-Some.ensures in
    let cells = written_cell c.args.self.now.cells.items c.args.width c.args.offset c.in-Some.i c.index_mut.result.now c.args.value c.args.self.now.in_order at c.index_mut.ensures.value in
    let with_cells : List mem.Cell → mem.Block = λ cs. record { size = c.args.self.now.size; cells = cs; live = true; fixed = c.args.self.now.fixed } in
    ap with_cells cells
