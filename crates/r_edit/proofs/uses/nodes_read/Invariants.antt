use Rattle.std.proofs.Common.{◌≡◌, drop}
use Rattle.g_graph.specs.Plain.{nodes_of}
use Rattle.r_edit.specs.Uses.{nodes_read, is_output_of}
use Rattle.r_edit.proofs.uses.nodes_read.Given as goal

abbrev pub invariant-loop-node : goal.invariant-loop-node
invariant-loop-node l = nodes_read (is_output_of l.id) (nodes_of (drop l.node-index l.nodes)) ≡ nodes_read (is_output_of l.id) (nodes_of l.nodes)
