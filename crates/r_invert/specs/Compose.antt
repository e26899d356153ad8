-- Regions made of others: one after another, and one of a single node.
use Rattle.std.specs.Prelude.{ℕ, List, map, length}
use Rattle.g_graph.specs.declared.op.Kind.{Kind}
use Rattle.g_graph.specs.declared.op.Op.{Op}
use Rattle.g_graph.specs.declared.op.Origin.TheVariants.{Arg, Out}
use Rattle.g_graph.specs.Plain.{RegionTree, region, node, no_nodes, node_then, RegionTrees}
use Rattle.g_graph.specs.Replace.{nodes_redirected}
use Rattle.g_graph.specs.Splice.{args_to_inputs, joined_nodes}
use Rattle.r_edit.specs.Origins.{origins_from}

-- the one region, and then the other one on its results
abbrev pub in_sequence : RegionTree → RegionTree → RegionTree
in_sequence (region args ns results) (region own ms gives) =
    region args (joined_nodes ns (nodes_redirected (args_to_inputs results) ms)) (map (args_to_inputs results) gives)

-- a region of one node, which takes its arguments and gives so many results
abbrev pub alone : (id : ℕ) → Op → (args : List Kind) → (results : ℕ) → RegionTrees → RegionTree
alone id op args results rs =
    region args (node_then (node id op (origins_from Arg 0 (length args)) rs) no_nodes) (origins_from (Out id) 0 results)
