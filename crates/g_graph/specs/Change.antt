-- A change of one region of a nest: of the first, in pre-order, that can be changed so. None where there is no such
-- region.
use Rattle.std.specs.Option.{option_or}
use Rattle.std.specs.Prelude.{ℕ, suc, ◌==◌, Bool, false, ◌||◌, if◌then◌else◌, unwrap_or, option_map}
use Rattle.std.specs.declared.option.Option.{Option}
use Rattle.std.specs.declared.option.Option.TheVariants.{Some, None}
use Rattle.g_graph.specs.Plain.{RegionTree, region, NodeTree, node, NodeTrees, no_nodes, node_then, RegionTrees, no_regions, region_then, id_of, nodes_in, PlainLambda}

abbrev mutual
  pub region_changed : (RegionTree → Option RegionTree) → RegionTree → Option RegionTree
  region_changed f (region args nodes results) = option_or (f (region args nodes results)) (option_map (λ ns. region args ns results) (nodes_changed f nodes))

  pub node_changed : (RegionTree → Option RegionTree) → NodeTree → Option NodeTree
  node_changed f (node id op inputs rs) = option_map (λ ss. node id op inputs ss) (regions_changed f rs)

  pub nodes_changed : (RegionTree → Option RegionTree) → NodeTrees → Option NodeTrees
  nodes_changed f no_nodes = None
  nodes_changed f (node_then x xs) = option_or (option_map (λ y. node_then y xs) (node_changed f x)) (option_map (λ ys. node_then x ys) (nodes_changed f xs))

  pub regions_changed : (RegionTree → Option RegionTree) → RegionTrees → Option RegionTrees
  regions_changed f no_regions = None
  regions_changed f (region_then r rs) = option_or (option_map (λ s. region_then s rs) (region_changed f r)) (option_map (λ ss. region_then r ss) (regions_changed f rs))

-- the test holds of a region or of one nested in it
abbrev mutual
  pub some_region : (RegionTree → Bool) → RegionTree → Bool
  some_region test (region args nodes results) = test (region args nodes results) || some_in_nodes test nodes

  pub some_in_node : (RegionTree → Bool) → NodeTree → Bool
  some_in_node test (node id op inputs rs) = some_in_regions test rs

  pub some_in_nodes : (RegionTree → Bool) → NodeTrees → Bool
  some_in_nodes test no_nodes = false
  some_in_nodes test (node_then x xs) = some_in_node test x || some_in_nodes test xs

  pub some_in_regions : (RegionTree → Bool) → RegionTrees → Bool
  some_in_regions test no_regions = false
  some_in_regions test (region_then r rs) = some_region test r || some_in_regions test rs

-- the lambda with its body changed so, or as it was
abbrev pub lambda_changed : (RegionTree → Option RegionTree) → PlainLambda → PlainLambda
lambda_changed f l = record l { body = unwrap_or (region_changed f l.body) l.body }

abbrev pub has_node : ℕ → NodeTrees → Bool
has_node n no_nodes = false
has_node n (node_then x xs) = (id_of x == n) || has_node n xs

-- the index of the first node of this number, counted from a first index
abbrev pub node_index : ℕ → (first : ℕ) → NodeTrees → Option ℕ
node_index n first no_nodes = None
node_index n first (node_then x xs) = if id_of x == n then Some first else node_index n (suc first) xs

-- the change of the region that itself holds the node of this number
abbrev pub in_region_of : ℕ → (RegionTree → RegionTree) → RegionTree → Option RegionTree
in_region_of n change r = if has_node n (nodes_in r) then Some (change r) else None
