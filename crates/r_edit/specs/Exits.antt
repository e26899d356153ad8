-- The edit of a Gamma's exit variables: some of them go, and what names later ones follows.
use Rattle.std.specs.Prelude.{ℕ, ◌==◌, ◌&&◌, not, if◌then◌else◌, Bool, false, List, map}
use Rattle.g_graph.specs.declared.op.Origin.{Origin}
use Rattle.g_graph.specs.declared.op.Origin.TheVariants.{Arg, Out}
use Rattle.g_graph.specs.Plain.{RegionTree, region, NodeTree, node, NodeTrees, no_nodes, node_then, RegionTrees, no_regions, region_then, id_of}
use Rattle.g_graph.specs.Replace.{nodes_redirected}
use Rattle.r_edit.specs.Places.{stays_at, kept, place_after}

abbrev pub regions_giving : (stays : List Bool) → RegionTrees → RegionTrees
regions_giving stays no_regions = no_regions
regions_giving stays (region_then (region args nodes results) rs) = region_then (region args nodes (kept stays results)) (regions_giving stays rs)

abbrev pub node_giving : (stays : List Bool) → NodeTree → NodeTree
node_giving stays (node id op inputs rs) = node id op inputs (regions_giving stays rs)

-- an origin of the region, after outputs of node n went
abbrev pub output_after : (n : ℕ) → (stays : List Bool) → Origin → Origin
output_after n stays (Arg k) = Arg k
output_after n stays (Out m p) = if n == m then Out m (place_after stays p) else Out m p

abbrev pub is_gone_output : (n : ℕ) → (stays : List Bool) → Origin → Bool
is_gone_output n stays (Arg k) = false
is_gone_output n stays (Out m p) = (n == m) && not (stays_at stays p)

-- the first node of the number gives what stays; the nodes before it use none of its outputs
abbrev pub nodes_giving : (n : ℕ) → (stays : List Bool) → NodeTrees → NodeTrees
nodes_giving n stays no_nodes = no_nodes
nodes_giving n stays (node_then x ns) =
    if id_of x == n then node_then (node_giving stays x) (nodes_redirected (output_after n stays) ns) else node_then x (nodes_giving n stays ns)

abbrev pub exits_kept : (n : ℕ) → (stays : List Bool) → RegionTree → RegionTree
exits_kept n stays (region args nodes results) = region args (nodes_giving n stays nodes) (map (output_after n stays) results)
