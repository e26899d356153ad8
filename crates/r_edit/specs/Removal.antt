-- The edit of a node: it goes, with all that is in it.
use Rattle.std.specs.Prelude.{ℕ, ◌==◌, if◌then◌else◌}
use Rattle.g_graph.specs.Plain.{RegionTree, region, NodeTrees, no_nodes, node_then, id_of}

-- without the first node of this number
abbrev pub nodes_without : ℕ → NodeTrees → NodeTrees
nodes_without n no_nodes = no_nodes
nodes_without n (node_then x ns) = if id_of x == n then ns else node_then x (nodes_without n ns)

abbrev pub region_without : ℕ → RegionTree → RegionTree
region_without n (region args nodes results) = region args (nodes_without n nodes) results
