use Rattle.std.proofs.Common.{◌≡◌, ◌++◌}
use Rattle.r_invert.proofs.compose.push_nodes.Given as goal

abbrev pub invariant-loop-node : goal.invariant-loop-node
invariant-loop-node l = l.nodes.items ≡ l.fn.nodes.items ++ l.yielded
