use Rattle.std.proofs.Common.{◌≡◌, ◌++◌, drop}
use Rattle.g_graph.specs.Plain.{nodes_of, regions_of}
use Rattle.g_pass_order.specs.Calls.{region_calls, node_calls, nodes_calls, regions_calls}
use Rattle.g_pass_order.proofs.calls.+pushed.Given as goal

abbrev pub invariant-push_region-loop-node : goal.invariant-push_region-loop-node
invariant-push_region-loop-node l = l.calls.items ++ nodes_calls (nodes_of (drop l.node-index l.node-items)) ≡ l.fn.calls.items ++ region_calls l.region

abbrev pub invariant-push_node-loop-region : goal.invariant-push_node-loop-region
invariant-push_node-loop-region l = l.calls.items ++ regions_calls (regions_of (drop l.region-index l.region-items)) ≡ l.fn.calls.items ++ node_calls l.node
