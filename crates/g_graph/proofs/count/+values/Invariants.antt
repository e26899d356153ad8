use Rattle.std.proofs.Common.{◌≡◌, ◌+◌, ◌<◌, ◌^◌, drop}
use Rattle.g_graph.specs.Plain.{nodes_of, regions_of}
use Rattle.g_graph.specs.Count.{saturated, region_values, nodes_values, node_values, regions_values}
use Rattle.g_graph.proofs.count.+values.Given as goal

abbrev pub invariant-values_of_region-loop-node : goal.invariant-values_of_region-loop-node
invariant-values_of_region-loop-node l =
    (saturated (l.total + nodes_values (nodes_of (drop l.node-index l.node-items))) ≡ saturated (region_values l.region)) × (l.total < 2 ^ 64)

abbrev pub invariant-values_of_node-loop-region : goal.invariant-values_of_node-loop-region
invariant-values_of_node-loop-region l =
    (saturated (l.total + regions_values (regions_of (drop l.region-index l.region-items))) ≡ saturated (node_values l.node)) × (l.total < 2 ^ 64)
