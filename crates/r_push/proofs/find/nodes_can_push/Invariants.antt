use Rattle.std.specs.Prelude.{is_some}
use Rattle.std.proofs.Common.{◌≡◌, drop}
use Rattle.g_graph.specs.Plain.{nodes_of}
use Rattle.r_push.specs.Rule.{nodes_pushed}
use Rattle.r_push.proofs.find.nodes_can_push.Given as goal

abbrev pub invariant-loop-node : goal.invariant-loop-node
invariant-loop-node l = is_some (nodes_pushed l.values l.id (nodes_of (drop l.node-index l.nodes))) ≡ is_some (nodes_pushed l.values l.id (nodes_of l.nodes))
