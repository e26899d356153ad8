-- What is done, with what is left, makes the whole.
use Rattle.std.proofs.Common.{◌≡◌, ℕ, ◌+◌, ◌*◌, ◌++◌, [], drop, cond, eqb}
use Rattle.std.specs.Prelude.{nat_eq}
use Rattle.indexmap.specs.IndexMap.{get}
use Rattle.g_graph.specs.Plain.{nodes_of, regions_of}
use Rattle.g_graph.specs.Signatures.{kind_after}
use Rattle.g_graph.specs.Count.{region_values, nodes_values, regions_values}
use Rattle.g_arena_def.specs.Flat.{in_region, in_nodes, in_regions}
use Rattle.g_arena_def.specs.Size.{region_inputs, nodes_inputs, regions_inputs}
use Rattle.g_arena_nodes.specs.Listed.{first_kinds, kind_at, region_kind}
use Rattle.g_arena_nodes.proofs.flatten.+rows.Given as goal

abbrev pub invariant-list_region-loop-node : goal.invariant-list_region-loop-node
invariant-list_region-loop-node g l = record {
  kinds : (n p : ℕ) → kind_after (nodes_of (drop l.node-index l.node-items)) n p (kind_at (get nat_eq l.outputs n) p) ≡ region_kind l.region n p;
  rows : l.rows.items ++ in_nodes l.home (nodes_of (drop l.node-index l.node-items)) ≡ l.fn.rows.items ++ in_region l.home l.region;
  looks : l.looks + 2 * (nodes_values (nodes_of (drop l.node-index l.node-items)) + nodes_inputs (nodes_of (drop l.node-index l.node-items))) ≡ l.fn.looks + 2 * (region_values l.region + region_inputs l.region);
}

abbrev pub invariant-list_regions-loop-k : goal.invariant-list_regions-loop-k
invariant-list_regions-loop-k g l = record {
  none : l.k ≡ 0 → l.first.items ≡ [];
  some : cond (eqb l.k 0) (first_kinds (regions_of (drop l.k l.regions))) l.first.items ≡ first_kinds (regions_of l.regions);
  rows : l.rows.items ++ in_regions l.node l.k (regions_of (drop l.k l.regions)) ≡ l.fn.rows.items ++ in_regions l.node 0 (regions_of l.regions);
  looks : l.looks + 2 * (regions_values (regions_of (drop l.k l.regions)) + regions_inputs (regions_of (drop l.k l.regions))) ≡ l.fn.looks + 2 * (regions_values (regions_of l.regions) + regions_inputs (regions_of l.regions));
}
