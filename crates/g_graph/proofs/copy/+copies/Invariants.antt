use Rattle.std.proofs.Common.{◌≡◌, take}
use Rattle.g_graph.proofs.copy.+copies.Given as goal

abbrev pub invariant-copy_region-loop-node : goal.invariant-copy_region-loop-node
invariant-copy_region-loop-node l = l.nodes.items ≡ take l.node-index l.node-items

abbrev pub invariant-copy_node-loop-region : goal.invariant-copy_node-loop-region
invariant-copy_node-loop-region l = l.regions.items ≡ take l.region-index l.region-items
