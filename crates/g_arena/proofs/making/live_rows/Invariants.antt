-- The rows so far, with those that are left, are all of them.
use Rattle.std.proofs.Common.{◌≡◌, ◌++◌, drop}
use Rattle.g_arena_use.specs.Seen.{nodes_seen}
use Rattle.g_arena.proofs.making.live_rows.Given as goal

abbrev pub invariant-loop-at : goal.invariant-loop-at
invariant-loop-at l = l.rows.items ++ nodes_seen (drop l.at l.inputs.lists) l.results.lists (drop l.at l.nodes) ≡ nodes_seen l.inputs.lists l.results.lists l.nodes
