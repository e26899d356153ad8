use Rattle.std.proofs.Common.{◌≡◌, drop}
use Rattle.g_graph.specs.Plain.{nodes_of, regions_of}
use Rattle.r_pull.specs.Rule.{copies_here, region_answer, node_answer, nodes_answer, regions_answer}
use Rattle.r_pull.proofs.rule.+copies.Given as goal

abbrev pub invariant-region_copies-loop-node : goal.invariant-region_copies-loop-node
invariant-region_copies-loop-node l = nodes_answer (copies_here l.values l.next l.id) (nodes_of (drop l.node-index l.node-items)) ≡ region_answer (copies_here l.values l.next l.id) l.region

abbrev pub invariant-node_copies-loop-region : goal.invariant-node_copies-loop-region
invariant-node_copies-loop-region l = regions_answer (copies_here l.values l.next l.id) (regions_of (drop l.region-index l.region-items)) ≡ node_answer (copies_here l.values l.next l.id) l.node
