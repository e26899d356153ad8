-- What the cells hold at each turn.
use Rattle.std.proofs.Common.{◌≡◌, ◌+◌, ◌-◌}
use Rattle.g_arena_use.specs.UseCells.{with_closed}
use Rattle.g_arena_use.proofs.use_index.UseIndex.close.Given as goal

abbrev pub invariant-loop-from : goal.invariant-loop-from
invariant-loop-from l = l.self ≡ with_closed l.fn.self l.cell (l.from - (l.cell + 1))
