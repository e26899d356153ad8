-- One more cell that holds none.
use Rattle.std.proofs.Common.{◌≡◌, ◌+◌, ◌-◌, ◌<◌, Option, None, length, replicate, ap, ◌∙◌, arith}
use Rattle.std.proofs.lemmas.List.{length-replicate}
use Rattle.g_arena_use.specs.declared.use_index.Use.{Use}
use Rattle.g_arena_use.specs.UseCells.{with_written}
use Rattle.g_arena_use.proofs.RowLemmas.{written_more, none_more}
use Rattle.g_arena_use.proofs.use_index.UseIndex.clear_all.Goals as goal

pub loop-cell-preserved : goal.loop-cell-preserved
loop-cell-preserved c =
    let n = c.loop-cell.cell - c.args.from in
    let at : c.loop-cell.cell ≡ c.args.from + length (replicate {A = Option Use} (c.loop-cell.cell - c.args.from) None) = omega (arith, length-replicate {A = Option Use} (c.loop-cell.cell - c.args.from) None) in
    let inside : c.loop-cell.cell < length c.args.self.now.cells = omega arith in
    let count : c.loop-cell.cell - c.args.from + 1 ≡ c.loop-cell.cell + 1 - c.args.from = omega arith in
    written_more c.loop-cell.self c.args.self.now c.clear.new.self c.args.from c.loop-cell.cell (replicate (c.loop-cell.cell - c.args.from) None) None c.loop-cell.invariant at inside c.clear.ensures
    ∙ ap (with_written c.args.self.now c.args.from) (none_more (c.loop-cell.cell - c.args.from) ∙ ap (λ m. replicate m None) count)
