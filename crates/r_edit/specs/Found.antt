-- What is found in a region, or else in the first of those nested in it.
use Rattle.std.specs.Option.{option_or}
use Rattle.std.specs.Prelude.{Option, None}
use Rattle.g_graph.specs.Plain.{RegionTree, region, NodeTree, node, NodeTrees, no_nodes, node_then, RegionTrees, no_regions, region_then}

abbrev mutual
  pub region_found : {X : Type 0} → (RegionTree → Option X) → RegionTree → Option X
  region_found f (region args nodes results) = option_or (f (region args nodes results)) (nodes_found f nodes)

  pub node_found : {X : Type 0} → (RegionTree → Option X) → NodeTree → Option X
  node_found f (node id op inputs rs) = regions_found f rs

  pub nodes_found : {X : Type 0} → (RegionTree → Option X) → NodeTrees → Option X
  nodes_found f no_nodes = None
  nodes_found f (node_then x ns) = option_or (node_found f x) (nodes_found f ns)

  pub regions_found : {X : Type 0} → (RegionTree → Option X) → RegionTrees → Option X
  regions_found f no_regions = None
  regions_found f (region_then r rs) = option_or (region_found f r) (regions_found f rs)
