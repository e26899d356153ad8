use Rattle.std.proofs.Common.{◌≡◌, ◌&&◌, drop}
use Rattle.std.specs.Prelude.{◌==◌, nat_lt, count_by}
use Rattle.g_graph.specs.Plain.{nodes_of, regions_of}
use Rattle.g_graph.specs.Count.{saturated}
use Rattle.g_graph.specs.Ids.{region_ids, node_ids, nodes_ids, regions_ids}
use Rattle.g_graph.specs.WellFormed.{all_of}
use Rattle.g_graph.proofs.unique.+unique.Given as goal

abbrev pub invariant-region_fits-loop-node : goal.invariant-region_fits-loop-node
invariant-region_fits-loop-node l =
    all_of (λ n. (saturated (count_by (λ m. m == n) (region_ids l.body)) == 1) && nat_lt n l.next) (nodes_ids (nodes_of (drop l.node-index l.node-items)))
    ≡ all_of (λ n. (saturated (count_by (λ m. m == n) (region_ids l.body)) == 1) && nat_lt n l.next) (region_ids l.region)

abbrev pub invariant-node_fits-loop-region : goal.invariant-node_fits-loop-region
invariant-node_fits-loop-region l =
    all_of (λ n. (saturated (count_by (λ m. m == n) (region_ids l.body)) == 1) && nat_lt n l.next) (regions_ids (regions_of (drop l.region-index l.region-items)))
    ≡ all_of (λ n. (saturated (count_by (λ m. m == n) (region_ids l.body)) == 1) && nat_lt n l.next) (node_ids l.node)
