-- The numbers of the nodes of a region in pre-order: a node before the nodes of its regions.
use Rattle.std.specs.Prelude.{ℕ, List, [], ◌∷◌, ◌++◌}
use Rattle.g_graph.specs.Plain.{RegionTree, region, NodeTree, node, NodeTrees, no_nodes, node_then, RegionTrees, no_regions, region_then}

abbrev mutual
  pub region_ids : RegionTree → List ℕ
  region_ids (region args nodes results) = nodes_ids nodes

  pub node_ids : NodeTree → List ℕ
  node_ids (node id op inputs rs) = id ∷ regions_ids rs

  pub nodes_ids : NodeTrees → List ℕ
  nodes_ids no_nodes = []
  nodes_ids (node_then x xs) = node_ids x ++ nodes_ids xs

  pub regions_ids : RegionTrees → List ℕ
  regions_ids no_regions = []
  regions_ids (region_then r rs) = region_ids r ++ regions_ids rs
