use Rattle.std.proofs.Common.{◌≡◌, drop}
use Rattle.g_graph.specs.Plain.{nodes_of, regions_of}
use Rattle.r_inline.specs.Called.{region_calls, node_calls, nodes_call, regions_call}
use Rattle.r_inline.proofs.called.+calls.Given as goal

abbrev pub invariant-region_calls-loop-node : goal.invariant-region_calls-loop-node
invariant-region_calls-loop-node l = nodes_call l.id (nodes_of (drop l.node-index l.node-items)) ≡ region_calls l.id l.region

abbrev pub invariant-node_calls-loop-region : goal.invariant-node_calls-loop-region
invariant-node_calls-loop-region l = regions_call l.id (regions_of (drop l.region-index l.region-items)) ≡ node_calls l.id l.node
