use Rattle.std.proofs.Common.{◌≡◌, map, take}
use Rattle.std.specs.Ordering.{nat_cmp}
use Rattle.std.specs.BTreeMap.{get}
use Rattle.g_mean.specs.Copies.{renumbered, region_copied, node_moved}
use Rattle.r_edit.specs.Numbering.{found_or_same}
use Rattle.r_edit.proofs.numbered.+copies.Given as goal

abbrev pub invariant-copy_region-loop-node : goal.invariant-copy_region-loop-node
invariant-copy_region-loop-node l =
    l.nodes.items ≡ map (node_moved (renumbered (found_or_same (get nat_cmp l.numbers))) (found_or_same (get nat_cmp l.numbers))) (take l.node-index l.node-items)

abbrev pub invariant-copy_node-loop-region : goal.invariant-copy_node-loop-region
invariant-copy_node-loop-region l = l.regions.items ≡ map (region_copied (found_or_same (get nat_cmp l.numbers))) (take l.region-index l.region-items)
