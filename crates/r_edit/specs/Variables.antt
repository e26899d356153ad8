-- The edit of a Theta's loop variables: some of them go, each with its input, argument, result and output, and what
-- names later ones follows.
use Rattle.std.specs.Prelude.{ℕ, ◌==◌, if◌then◌else◌, Bool, true, List, ◌∷◌, map}
use Rattle.g_graph.specs.Plain.{RegionTree, region, NodeTree, node, NodeTrees, no_nodes, node_then, no_regions, region_then, id_of}
use Rattle.g_graph.specs.Replace.{nodes_redirected}
use Rattle.r_edit.specs.Uses.{is_read}
use Rattle.r_edit.specs.Places.{kept}
use Rattle.r_edit.specs.Exits.{output_after}
use Rattle.r_edit.specs.Entries.{argument_after, is_gone_argument}

-- the predicate stays
abbrev pub region_looping : (stays : List Bool) → RegionTree → RegionTree
region_looping stays (region args nodes results) =
    region (kept stays args) (nodes_redirected (argument_after stays) nodes) (map (argument_after stays) (kept (true ∷ stays) results))

-- something but the results that go reads an argument that goes
abbrev pub loop_reads : (stays : List Bool) → RegionTree → Bool
loop_reads stays (region args nodes results) = is_read (is_gone_argument stays) (region args nodes (kept (true ∷ stays) results))

abbrev pub node_looping : (stays : List Bool) → NodeTree → NodeTree
node_looping stays (node id op inputs (region_then r no_regions)) = node id op (kept stays inputs) (region_then (region_looping stays r) no_regions)
node_looping stays (node id op inputs rs) = node id op inputs rs

abbrev pub nodes_looping : (n : ℕ) → (stays : List Bool) → NodeTrees → NodeTrees
nodes_looping n stays no_nodes = no_nodes
nodes_looping n stays (node_then x ns) =
    if id_of x == n then node_then (node_looping stays x) (nodes_redirected (output_after n stays) ns) else node_then x (nodes_looping n stays ns)

abbrev pub variables_kept : (n : ℕ) → (stays : List Bool) → RegionTree → RegionTree
variables_kept n stays (region args nodes results) = region args (nodes_looping n stays nodes) (map (output_after n stays) results)
