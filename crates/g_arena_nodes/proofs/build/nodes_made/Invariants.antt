-- What is made, with the rows that are left, makes the whole.
use Rattle.std.proofs.Common.{◌≡◌, ◌+◌, ◌*◌, [], length}
use Rattle.g_arena_nodes.specs.Made.{all_made, rows_size}
use Rattle.g_arena_nodes.proofs.build.nodes_made.Given as goal

abbrev pub invariant-loop-row : goal.invariant-loop-row
invariant-loop-row g l = record {
  made : all_made l.rows.items l.made.items ≡ all_made l.fn.rows.items [];
  looks : l.looks + 2 * rows_size l.rows.items ≡ l.fn.looks + 2 * rows_size l.fn.rows.items;
}

abbrev pub decreases-loop-row : goal.decreases-loop-row
decreases-loop-row g l = length l.rows.items
