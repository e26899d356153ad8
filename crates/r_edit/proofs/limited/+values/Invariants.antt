use Rattle.std.proofs.Common.{◌≡◌, ◌-◌, drop}
use Rattle.g_graph.specs.Plain.{nodes_of, regions_of}
use Rattle.g_graph.specs.Count.{region_values, nodes_values, node_values, regions_values}
use Rattle.r_edit.proofs.limited.+values.Given as goal

abbrev pub invariant-values_left-loop-node : goal.invariant-values_left-loop-node
invariant-values_left-loop-node l = l.left - nodes_values (nodes_of (drop l.node-index l.node-items)) ≡ l.most - region_values l.region

abbrev pub invariant-node_values_left-loop-region : goal.invariant-node_values_left-loop-region
invariant-node_values_left-loop-region l = l.left - regions_values (regions_of (drop l.region-index l.region-items)) ≡ l.most - node_values l.node
