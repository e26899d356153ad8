-- What the cells hold at each turn.
use Rattle.std.proofs.Common.{◌≡◌, ◌-◌, None, replicate}
use Rattle.g_arena_use.specs.UseCells.{with_written}
use Rattle.g_arena_use.proofs.use_index.UseIndex.clear_all.Given as goal

abbrev pub invariant-loop-cell : goal.invariant-loop-cell
invariant-loop-cell l = l.self ≡ with_written l.fn.self l.from (replicate (l.cell - l.from) None)
