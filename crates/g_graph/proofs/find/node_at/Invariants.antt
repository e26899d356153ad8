use Rattle.std.proofs.Common.{◌≡◌, drop}
use Rattle.g_graph.specs.Plain.{nodes_of}
use Rattle.g_graph.specs.Nodes.{node_at}
use Rattle.g_graph.proofs.find.node_at.Given as goal

abbrev pub invariant-loop-node : goal.invariant-loop-node
invariant-loop-node l = node_at l.id (nodes_of (drop l.node-index l.nodes)) ≡ node_at l.id (nodes_of l.nodes)
