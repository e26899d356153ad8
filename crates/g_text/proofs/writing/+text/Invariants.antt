use Rattle.std.proofs.Common.{◌≡◌, ◌++◌, drop}
use Rattle.g_graph.specs.Plain.{nodes_of, regions_of, results_of}
use Rattle.g_text.specs.Texts.{region_text, node_text, nodes_text, regions_text, results_line, deeper}
use Rattle.g_text.proofs.writing.+text.Given as goal

abbrev pub invariant-push_region-loop-node : goal.invariant-push_region-loop-node
invariant-push_region-loop-node l =
    l.out.items ++ nodes_text l.depth (nodes_of (drop l.node-index l.node-items)) ++ results_line l.depth (results_of l.region) ≡ l.fn.out.items ++ region_text l.depth l.region

abbrev pub invariant-push_node-loop-index : goal.invariant-push_node-loop-index
invariant-push_node-loop-index l =
    l.out.items ++ regions_text (deeper l.depth) l.index (regions_of (drop l.index l.region-items)) ≡ l.fn.out.items ++ node_text l.depth l.node
