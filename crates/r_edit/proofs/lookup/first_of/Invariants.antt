use Rattle.std.proofs.Common.{◌≡◌, drop}
use Rattle.g_graph.specs.Plain.{nodes_of}
use Rattle.r_edit.specs.Lookup.{first_of}
use Rattle.r_edit.proofs.lookup.first_of.Given as goal

abbrev pub invariant-loop-node : goal.invariant-loop-node
invariant-loop-node l = first_of l.op l.inputs (nodes_of (drop l.node-index l.nodes)) ≡ first_of l.op l.inputs (nodes_of l.nodes)
