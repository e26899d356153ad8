-- The edits as they are made in place: of a node, of the nodes after it, and of its regions.
use Rattle.std.specs.Prelude.{ℕ, ◌==◌, ◌&&◌, if◌then◌else◌, Bool, true, List, [], ◌∷◌, map}
use Rattle.g_graph.specs.declared.op.Origin.{Origin}
use Rattle.g_graph.specs.Plain.{RegionTree, region, NodeTree, NodeTrees, no_nodes, node_then, id_of}
use Rattle.g_graph.specs.Replace.{nodes_redirected}
use Rattle.r_edit.specs.Places.{kept}
use Rattle.r_edit.specs.Entries.{argument_after}

-- the first node of this number is what f makes of it
abbrev pub nodes_edited : (n : ℕ) → (NodeTree → NodeTree) → NodeTrees → NodeTrees
nodes_edited n f no_nodes = no_nodes
nodes_edited n f (node_then x ns) = if id_of x == n then node_then (f x) ns else node_then x (nodes_edited n f ns)

-- each input of the nodes after the first one of this number is what f makes of it
abbrev pub redirected_after : (n : ℕ) → (Origin → Origin) → NodeTrees → NodeTrees
redirected_after n f no_nodes = no_nodes
redirected_after n f (node_then x ns) = if id_of x == n then node_then x (nodes_redirected f ns) else node_then x (redirected_after n f ns)

-- what reads outputs of the node of this number
abbrev pub outputs_redirected : (n : ℕ) → (Origin → Origin) → RegionTree → RegionTree
outputs_redirected n f (region args nodes results) = region args (redirected_after n f nodes) (map f results)

-- a region of a Gamma some of whose results go
abbrev pub region_giving : (stays : List Bool) → RegionTree → RegionTree
region_giving stays (region args nodes results) = region args nodes (kept stays results)

-- a region of a Gamma some of whose arguments go
abbrev pub region_taking : (stays : List Bool) → RegionTree → RegionTree
region_taking stays (region args nodes results) = region (kept stays args) (nodes_redirected (argument_after stays) nodes) (map (argument_after stays) results)

-- ---- variables that stay

-- whether all stay
abbrev pub all_stay : List Bool → Bool
all_stay [] = true
all_stay (t ∷ ts) = t && all_stay ts
