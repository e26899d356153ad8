-- The total with what is left is the whole.
use Rattle.std.proofs.Common.{◌≡◌, ◌+◌, ◌^◌, ◌<◌, drop}
use Rattle.g_graph.specs.Count.{saturated, nodes_values}
use Rattle.g_graph.specs.Plain.{nodes_of}
use Rattle.r_walk.proofs.counts.nodes_values.Given as goal

abbrev pub invariant-loop-node : goal.invariant-loop-node
invariant-loop-node l = (saturated (l.total + nodes_values (nodes_of (drop l.node-index l.nodes))) ≡ saturated (nodes_values (nodes_of l.nodes))) × (l.total < 2 ^ 64)
