use Rattle.std.proofs.Common.{◌≡◌, drop}
use Rattle.g_graph.specs.Plain.{nodes_of}
use Rattle.g_graph.specs.WellFormed.{gives}
use Rattle.g_graph.proofs.checking.gives.Given as goal

abbrev pub invariant-loop-node : goal.invariant-loop-node
invariant-loop-node l = gives l.kind (nodes_of (drop l.node-index l.nodes)) ≡ gives l.kind (nodes_of l.nodes)
