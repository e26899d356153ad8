-- The edits that add at the end of a list: one more argument or result of a region, one more input of a node.
use Rattle.std.specs.Prelude.{[], ◌∷◌, ◌++◌}
use Rattle.g_graph.specs.declared.op.Kind.{Kind}
use Rattle.g_graph.specs.declared.op.Origin.{Origin}
use Rattle.g_graph.specs.Plain.{RegionTree, region, NodeTree, node}

abbrev pub arg_added : Kind → RegionTree → RegionTree
arg_added k (region args nodes results) = region (args ++ k ∷ []) nodes results

abbrev pub result_added : Origin → RegionTree → RegionTree
result_added o (region args nodes results) = region args nodes (results ++ o ∷ [])

abbrev pub input_added : Origin → NodeTree → NodeTree
input_added o (node id op inputs rs) = node id op (inputs ++ o ∷ []) rs
