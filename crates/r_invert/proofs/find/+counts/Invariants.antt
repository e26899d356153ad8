use Rattle.std.proofs.Common.{◌≡◌, ◌-◌, drop}
use Rattle.g_graph.specs.Plain.{nodes_of, regions_of}
use Rattle.g_graph.specs.Ids.{region_ids, nodes_ids, node_ids, regions_ids}
use Rattle.r_invert.specs.Edit.{new_in}
use Rattle.r_invert.proofs.find.+counts.Given as goal

abbrev pub invariant-new_left-loop-node : goal.invariant-new_left-loop-node
invariant-new_left-loop-node l = l.left - new_in l.next (nodes_ids (nodes_of (drop l.node-index l.node-items))) ≡ l.most - new_in l.next (region_ids l.region)

abbrev pub invariant-new_left_of-loop-region : goal.invariant-new_left_of-loop-region
invariant-new_left_of-loop-region l = l.left - new_in l.next (regions_ids (regions_of (drop l.region-index l.region-items))) ≡ l.most - new_in l.next (node_ids l.node)
