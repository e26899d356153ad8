-- The size of a lambda: its values and the inputs of its nodes.
use Rattle.std.specs.Prelude.{ℕ, ◌+◌, length}
use Rattle.g_graph.specs.Plain.{RegionTree, region, NodeTree, node, NodeTrees, no_nodes, node_then, RegionTrees, no_regions, region_then, PlainLambda}
use Rattle.g_graph.specs.Count.{region_values}

abbrev mutual
  pub region_inputs : RegionTree → ℕ
  region_inputs (region args nodes results) = nodes_inputs nodes

  pub node_inputs : NodeTree → ℕ
  node_inputs (node id op inputs rs) = length inputs + regions_inputs rs

  pub nodes_inputs : NodeTrees → ℕ
  nodes_inputs no_nodes = 0
  nodes_inputs (node_then x xs) = node_inputs x + nodes_inputs xs

  pub regions_inputs : RegionTrees → ℕ
  regions_inputs no_regions = 0
  regions_inputs (region_then r rs) = region_inputs r + regions_inputs rs

abbrev pub lambda_size : PlainLambda → ℕ
lambda_size l = region_values l.body + region_inputs l.body
