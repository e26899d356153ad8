use Rattle.std.proofs.Common.{◌≡◌, drop}
use Rattle.g_graph.specs.Plain.{nodes_of}
use Rattle.g_graph.specs.Nodes.{nodes_use}
use Rattle.g_graph.proofs.uses.nodes_use.Given as goal

abbrev pub invariant-loop-node : goal.invariant-loop-node
invariant-loop-node l = nodes_use l.origin (nodes_of (drop l.node-index l.nodes)) ≡ nodes_use l.origin (nodes_of l.nodes)
