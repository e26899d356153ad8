use Rattle.std.proofs.Common.{◌≡◌, drop}
use Rattle.g_graph.specs.Plain.{nodes_of, regions_of}
use Rattle.g_graph.specs.WellFormed.{region_fits, every_region, every_in_node, every_in_nodes, every_in_regions}
use Rattle.g_graph.proofs.checking.+nests.Given as goal

abbrev pub invariant-every_region_fits-loop-node : goal.invariant-every_region_fits-loop-node
invariant-every_region_fits-loop-node l = every_in_nodes (region_fits l.objects) (nodes_of (drop l.node-index l.node-items)) ≡ every_region (region_fits l.objects) l.region

abbrev pub invariant-every_in_node_fits-loop-region : goal.invariant-every_in_node_fits-loop-region
invariant-every_in_node_fits-loop-region l =
    every_in_regions (region_fits l.objects) (regions_of (drop l.region-index l.region-items)) ≡ every_in_node (region_fits l.objects) l.node
