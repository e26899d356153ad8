use Rattle.std.proofs.Common.{◌≡◌, drop}
use Rattle.g_graph.specs.Plain.{nodes_of, regions_of}
use Rattle.r_edit.specs.Found.{region_found, node_found, nodes_found, regions_found}
use Rattle.r_unroll.specs.Edit.{loop_at}
use Rattle.r_unroll.proofs.find.+finds.Given as goal

abbrev pub invariant-find_loop-loop-node : goal.invariant-find_loop-loop-node
invariant-find_loop-loop-node l =
    nodes_found (loop_at l.values l.next l.id) (nodes_of (drop l.node-index l.node-items)) ≡ region_found (loop_at l.values l.next l.id) l.region

abbrev pub invariant-find_in_node-loop-region : goal.invariant-find_in_node-loop-region
invariant-find_in_node-loop-region l =
    regions_found (loop_at l.values l.next l.id) (regions_of (drop l.region-index l.region-items)) ≡ node_found (loop_at l.values l.next l.id) l.node
