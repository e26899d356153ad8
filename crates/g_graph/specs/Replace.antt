-- The uses of one origin become uses of another in one region: in the inputs of its nodes and in its results. Regions
-- nested in it have origins of their own, and stay.
use Rattle.std.specs.Prelude.{ℕ, map, if◌then◌else◌}
use Rattle.std.specs.declared.option.Option.{Option}
use Rattle.std.specs.declared.option.Option.TheVariants.{Some, None}
use Rattle.g_graph.specs.declared.op.Origin.{Origin}
use Rattle.g_graph.specs.Plain.{RegionTree, region, NodeTree, node, NodeTrees, no_nodes, node_then, PlainLambda}
use Rattle.g_graph.specs.Scope.{same_origin}
use Rattle.g_graph.specs.Change.{lambda_changed, in_region_of}

-- each input of the node, and so of the nodes, is what f makes of it
abbrev pub node_redirected : (Origin → Origin) → NodeTree → NodeTree
node_redirected f (node id op inputs rs) = node id op (map f inputs) rs

abbrev pub nodes_redirected : (Origin → Origin) → NodeTrees → NodeTrees
nodes_redirected f no_nodes = no_nodes
nodes_redirected f (node_then x xs) = node_then (node_redirected f x) (nodes_redirected f xs)

abbrev pub region_redirected : (Origin → Origin) → RegionTree → RegionTree
region_redirected f (region args nodes results) = region args (nodes_redirected f nodes) (map f results)

abbrev pub origin_replaced : (from to : Origin) → Origin → Origin
origin_replaced from to o = if same_origin from o then to else o

-- the body, or the region that holds the node of the number `region_of`
abbrev pub replaced : (from to : Origin) → (region_of : Option ℕ) → PlainLambda → PlainLambda
replaced from to None l = record l { body = region_redirected (origin_replaced from to) l.body }
replaced from to (Some n) l = lambda_changed (in_region_of n (region_redirected (origin_replaced from to))) l
