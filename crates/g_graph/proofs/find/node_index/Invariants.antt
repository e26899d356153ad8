use Rattle.std.proofs.Common.{◌≡◌, drop}
use Rattle.g_graph.specs.Plain.{nodes_of}
use Rattle.g_graph.specs.Change.{node_index}
use Rattle.g_graph.proofs.find.node_index.Given as goal

abbrev pub invariant-loop-i : goal.invariant-loop-i
invariant-loop-i l = node_index l.id l.i (nodes_of (drop l.i l.nodes)) ≡ node_index l.id 0 (nodes_of l.nodes)
