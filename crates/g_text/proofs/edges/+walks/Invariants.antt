-- The edges of the nodes and regions that are left come after those so far.
use Rattle.std.proofs.Common.{◌≡◌, ◌++◌, drop}
use Rattle.g_graph.specs.Plain.{id_of, nodes_of, regions_of, results_of}
use Rattle.g_text.specs.Edges.{region_edges, node_edges, nodes_edges, regions_edges, result_edges}
use Rattle.g_text.specs.Drawing.{ends_of}
use Rattle.g_text.proofs.edges.+walks.Given as goal

-- what is left comes after what is there
abbrev pub invariant-add_region-loop-node : goal.invariant-add_region-loop-node
invariant-add_region-loop-node l =
    ends_of l.edges.items ++ nodes_edges l.place (nodes_of (drop l.node-index l.node-items)) ++ result_edges l.place 0 (results_of l.region)
    ≡ ends_of l.fn.edges.items ++ region_edges l.place l.region

abbrev pub invariant-add_node-loop-index : goal.invariant-add_node-loop-index
invariant-add_node-loop-index l =
    ends_of l.edges.items ++ regions_edges (id_of l.node) l.index (regions_of (drop l.index l.region-items)) ≡ ends_of l.fn.edges.items ++ node_edges l.fn.place l.node
