-- What the cells hold at each turn.
use Rattle.std.proofs.Common.{◌≡◌, take}
use Rattle.g_arena_use.specs.UseCells.{with_written}
use Rattle.g_arena_use.specs.Sites.{held}
use Rattle.g_arena_use.proofs.use_index.UseIndex.put.Given as goal

abbrev pub invariant-loop-k : goal.invariant-loop-k
invariant-loop-k l = l.self ≡ with_written l.fn.self l.cell (held l.home (take l.k l.origins))
