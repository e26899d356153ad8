use Rattle.std.proofs.Common.{◌≡◌, ◌+◌, ◌<◌, ◌^◌, drop}
use Rattle.std.specs.Prelude.{◌==◌, count_by}
use Rattle.g_graph.specs.Plain.{nodes_of, regions_of}
use Rattle.g_graph.specs.Count.{saturated}
use Rattle.g_graph.specs.Ids.{region_ids, node_ids, nodes_ids, regions_ids}
use Rattle.g_graph.proofs.unique.+times.Given as goal

abbrev pub invariant-times_in_region-loop-node : goal.invariant-times_in_region-loop-node
invariant-times_in_region-loop-node l =
    (saturated (l.total + count_by (λ m. m == l.id) (nodes_ids (nodes_of (drop l.node-index l.node-items)))) ≡ saturated (count_by (λ m. m == l.id) (region_ids l.region)))
    × (l.total < 2 ^ 64)

abbrev pub invariant-times_in_node-loop-region : goal.invariant-times_in_node-loop-region
invariant-times_in_node-loop-region l =
    (saturated (l.total + count_by (λ m. m == l.id) (regions_ids (regions_of (drop l.region-index l.region-items)))) ≡ saturated (count_by (λ m. m == l.id) (node_ids l.node)))
    × (l.total < 2 ^ 64)
