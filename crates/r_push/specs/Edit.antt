-- The parts of the change, as it is made: the node that leaves, outside; and the node that it leaves, with lists that are
-- one longer.
use Rattle.std.specs.Prelude.{ℕ, List, [], ◌∷◌, ◌++◌, length, Option, None, Some, suc, if◌then◌else◌, Bool, is_some}
use Rattle.g_graph.specs.declared.op.Kind.TheVariants.{Value}
use Rattle.g_graph.specs.declared.op.Op.TheVariants.{Gamma, Theta}
use Rattle.g_graph.specs.declared.op.Origin.{Origin}
use Rattle.g_graph.specs.declared.op.Origin.TheVariants.{Arg, Out}
use Rattle.g_graph.specs.Plain.{RegionTree, region, NodeTree, node, NodeTrees, no_nodes, node_then, RegionTrees, no_regions, region_then, inputs_in, has_none}
use Rattle.g_graph.specs.Replace.{region_redirected, origin_replaced}
use Rattle.r_edit.specs.Removal.{region_without}
use Rattle.g_graph.specs.Views.{same_op}
use Rattle.r_push.specs.Rule.{leaving_one, leaving_loop, pushed_within}

-- the node of that number, in the only one of these regions, where it may leave it
abbrev pub left_only : ℕ → RegionTrees → Option NodeTree
left_only n (region_then r no_regions) = leaving_loop n r
left_only n rs = None

-- the node of that number, in a region of this node, where it may leave this node
abbrev pub left : ℕ → NodeTree → Option NodeTree
left n (node id Gamma (p ∷ entries) rs) = leaving_one n rs
left n (node id Theta inputs rs) = left_only n rs
left n x = None

-- where the arguments of the regions come from
abbrev pub outer : NodeTree → List Origin
outer (node id Gamma (p ∷ entries) rs) = entries
outer (node id op inputs rs) = inputs

abbrev pub has_no_regions : NodeTree → Bool
has_no_regions (node id op inputs rs) = has_none rs

-- the lists of a region that are one longer, and no nodes
abbrev pub longer : (loops : Bool) → RegionTree → RegionTree
longer loops (region args nodes results) = region (args ++ Value ∷ []) no_nodes (if loops then results ++ Arg (length args) ∷ [] else results)

abbrev pub all_longer : (loops : Bool) → RegionTrees → RegionTrees
all_longer loops no_regions = no_regions
all_longer loops (region_then r rs) = region_then (longer loops r) (all_longer loops rs)

-- the region with the lists of another one, without the node
abbrev pub with_lists : ℕ → RegionTree → RegionTree → RegionTree
with_lists n (region more none outs) (region args nodes results) = region_without n (region_redirected (origin_replaced (Out n 0) (Arg (length args))) (region more nodes outs))

abbrev pub lengthened : ℕ → (loops : Bool) → RegionTree → RegionTree
lengthened n loops r = with_lists n (longer loops r) r

abbrev pub all_lengthened : ℕ → (loops : Bool) → RegionTrees → RegionTrees
all_lengthened n loops no_regions = no_regions
all_lengthened n loops (region_then r rs) = region_then (lengthened n loops r) (all_lengthened n loops rs)

-- the node that is left, with these inputs, and with one more argument of each region
abbrev pub widened_by : ℕ → (inputs : List Origin) → NodeTree → NodeTree
widened_by n more (node id op inputs rs) = node id op more (all_lengthened n (same_op op Theta) rs)

abbrev pub is_loop : NodeTree → Bool
is_loop (node id op inputs rs) = same_op op Theta

abbrev pub widened : ℕ → NodeTree → NodeTree
widened n x = widened_by n (inputs_in x ++ Out n 0 ∷ []) x

-- the index of the first of these nodes that the node may leave
abbrev pub push_index : (values n first : ℕ) → NodeTrees → Option ℕ
push_index values n first no_nodes = None
push_index values n first (node_then x ns) = if is_some (pushed_within values n x) then Some first else push_index values n (suc first) ns
