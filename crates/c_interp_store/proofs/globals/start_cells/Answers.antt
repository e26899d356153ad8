use Rattle.std.proofs.Common.{drop}
use Rattle.c_interp_store.specs.Starts.{globals_in, are_written}
use Rattle.c_interp_store.proofs.GlobalCells.{AgreesFrom, agree_more, agree_later, cells_step}
use Rattle.c_interp_store.proofs.globals.start_cells.Goals as goal

pub loop-leaf-preserved : goal.loop-leaf-preserved
loop-leaf-preserved c =
    let global = globals_in c.args.layouts.now in
    let ws = are_written c.args.written.now in
    let ls = c.args.leaves.now in
    let i = c.loop-leaf.leaf-index in
    let us = drop c.skipped-from.result ws in
    let inv = c.loop-leaf.invariant in
    let same : AgreesFrom global ls i ws us =
    agree_more global ls i ws (drop c.loop-leaf.from ws) us _ c.requires.ascend inv.same (c.skipped-from.ensures.same global) c.loop-leaf-test.true in
    record {
      within = c.skipped-from.ensures.within;
      cells = cells_step global ws us ls i _ c.loop-leaf.cells.items c.push.new.self.items c.value_from-value.result c.loop-leaf-test.true same c.value_from-value.ensures inv.cells
          c.in_ok-push.ensures.items;
      same = agree_later global ls i ws us same;
    }
