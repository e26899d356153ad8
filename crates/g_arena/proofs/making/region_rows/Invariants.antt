-- The rows so far, with those that are left, are all of them.
use Rattle.std.proofs.Common.{◌≡◌, ◌+◌, ◌++◌, drop}
use Rattle.g_arena_use.specs.Seen.{regions_seen}
use Rattle.g_arena.proofs.making.region_rows.Given as goal

abbrev pub invariant-loop-k : goal.invariant-loop-k
invariant-loop-k l = l.rows.items ++ regions_seen l.results.lists (l.first + l.k) (drop l.k l.parts) ≡ regions_seen l.results.lists l.first l.parts
