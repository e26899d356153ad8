use Rattle.std.proofs.Common.{◌≡◌, drop}
use Rattle.std.specs.Prelude.{is_some}
use Rattle.g_graph.specs.Plain.{nodes_of, regions_of}
use Rattle.g_graph.specs.Change.{some_region, some_in_node, some_in_nodes, some_in_regions}
use Rattle.g_graph.proofs.can_change.+can_change.Given as goal

abbrev pub invariant-region_can_change-loop-node : goal.invariant-region_can_change-loop-node
invariant-region_can_change-loop-node g l =
    some_in_nodes (λ r. is_some (g.C.CanChange.changed l.test r)) (nodes_of (drop l.node-index l.node-items)) ≡ some_region (λ r. is_some (g.C.CanChange.changed l.test r)) l.region

abbrev pub invariant-node_can_change-loop-region : goal.invariant-node_can_change-loop-region
invariant-node_can_change-loop-region g l =
    some_in_regions (λ r. is_some (g.C.CanChange.changed l.test r)) (regions_of (drop l.region-index l.region-items)) ≡ some_in_node (λ r. is_some (g.C.CanChange.changed l.test r)) l.node
