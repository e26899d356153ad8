use Rattle.std.proofs.Common.{◌≡◌, ◌-◌, length, drop}
use Rattle.g_graph.specs.Plain.{nodes_of, regions_of}
use Rattle.g_graph.specs.Ids.{nodes_ids, node_ids, regions_ids}
use Rattle.r_edit.specs.Numbering.{node_count}
use Rattle.r_edit.proofs.limited.+numbers.Given as goal

abbrev pub invariant-numbers_left-loop-node : goal.invariant-numbers_left-loop-node
invariant-numbers_left-loop-node l = l.left - length (nodes_ids (nodes_of (drop l.node-index l.node-items))) ≡ l.most - node_count l.region

abbrev pub invariant-node_numbers_left-loop-region : goal.invariant-node_numbers_left-loop-region
invariant-node_numbers_left-loop-region l = l.left - length (regions_ids (regions_of (drop l.region-index l.region-items))) ≡ l.most - length (node_ids l.node)
