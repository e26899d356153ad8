use Rattle.std.proofs.Common.{◌≡◌, drop}
use Rattle.g_graph.specs.Plain.{nodes_of, regions_of}
use Rattle.r_unroll.specs.Rule.{region_loops, node_loops, nodes_loop, regions_loop}
use Rattle.r_unroll.proofs.find.+loops.Given as goal

abbrev pub invariant-region_loops-loop-node : goal.invariant-region_loops-loop-node
invariant-region_loops-loop-node l = nodes_loop (nodes_of (drop l.node-index l.node-items)) ≡ region_loops l.region

abbrev pub invariant-node_loops-loop-region : goal.invariant-node_loops-loop-region
invariant-node_loops-loop-region l = regions_loop (regions_of (drop l.region-index l.region-items)) ≡ node_loops l.node
