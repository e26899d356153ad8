-- The greatest depth so far, with the calls that are left, is the greatest of all.
use Rattle.std.proofs.Common.{◌≡◌, drop}
use Rattle.g_graph.specs.Plain.{nodes_of, regions_of}
use Rattle.g_pass_order.specs.Calls.{region_calls, node_calls, nodes_calls, regions_calls}
use Rattle.cc_view.specs.Depths.{greater, most_of}
use Rattle.cc_view.proofs.calling.+walked.Given as goal

abbrev pub invariant-region_most-loop-node : goal.invariant-region_most-loop-node
invariant-region_most-loop-node l =
    greater l.most (most_of l.depths (nodes_calls (nodes_of (drop l.node-index l.node-items)))) ≡ greater l.fn.so_far (most_of l.depths (region_calls l.region))

abbrev pub invariant-node_most-loop-region : goal.invariant-node_most-loop-region
invariant-node_most-loop-region l =
    greater l.most (most_of l.depths (regions_calls (regions_of (drop l.region-index l.region-items)))) ≡ greater l.fn.so_far (most_of l.depths (node_calls l.node))
