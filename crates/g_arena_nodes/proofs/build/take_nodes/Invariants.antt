-- What is taken, with what is still to be taken, is the whole.
use Rattle.std.proofs.Common.{◌≡◌, ◌++◌, length}
use Rattle.g_arena_nodes.specs.Made.{taken, left}
use Rattle.g_arena_nodes.proofs.build.take_nodes.Given as goal

abbrev pub invariant-loop-node : goal.invariant-loop-node
invariant-loop-node l = record {
  nodes : l.nodes.items ++ taken l.home l.made.items ≡ taken l.home l.fn.made.items;
  rest : left l.home l.made.items ≡ left l.home l.fn.made.items;
}

abbrev pub decreases-loop-node : goal.decreases-loop-node
decreases-loop-node l = length l.made.items
