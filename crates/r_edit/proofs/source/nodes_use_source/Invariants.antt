use Rattle.std.proofs.Common.{◌≡◌, drop}
use Rattle.g_graph.specs.Plain.{nodes_of}
use Rattle.g_graph.specs.Nodes.{nodes_use}
use Rattle.r_edit.specs.Origins.{origin_of}
use Rattle.r_edit.proofs.source.nodes_use_source.Given as goal

abbrev pub invariant-loop-node : goal.invariant-loop-node
invariant-loop-node l = nodes_use (origin_of l.source) (nodes_of (drop l.node-index l.nodes)) ≡ nodes_use (origin_of l.source) (nodes_of l.nodes)
