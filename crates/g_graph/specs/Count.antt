-- How many values a lambda has: one for each region, region argument, node, node output and region result, the body
-- counted as a region.
use Rattle.std.specs.Prelude.{ℕ, ◌+◌, ◌-◌, ◌^◌, min, length}
use Rattle.g_graph.specs.Plain.{RegionTree, region, NodeTree, node, NodeTrees, no_nodes, node_then, RegionTrees, no_regions, region_then}
use Rattle.g_graph.specs.Signatures.{outputs_of}

abbrev mutual
  pub region_values : RegionTree → ℕ
  region_values (region args nodes results) = 1 + length args + nodes_values nodes + length results

  pub node_values : NodeTree → ℕ
  node_values (node id op inputs rs) = 1 + length (outputs_of op rs) + regions_values rs

  pub nodes_values : NodeTrees → ℕ
  nodes_values no_nodes = 0
  nodes_values (node_then x xs) = node_values x + nodes_values xs

  pub regions_values : RegionTrees → ℕ
  regions_values no_regions = 0
  regions_values (region_then r rs) = region_values r + regions_values rs

-- the greatest answer is 2 ^ 64 - 1
abbrev pub saturated : ℕ → ℕ
saturated n = min n (2 ^ 64 - 1)
