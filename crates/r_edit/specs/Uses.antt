-- What a region reads, and the edit of uses: in one region the uses of an origin become uses of another one.
use Rattle.std.specs.Prelude.{ℕ, ◌==◌, ◌||◌, if◌then◌else◌, Bool, false, Option, None, Some}
use Rattle.g_graph.specs.declared.op.Origin.{Origin}
use Rattle.g_graph.specs.declared.op.Origin.TheVariants.{Arg, Out}
use Rattle.g_graph.specs.Plain.{RegionTree, region, node, NodeTrees, no_nodes, node_then}
use Rattle.g_graph.specs.WellFormed.{some_of}
use Rattle.g_graph.specs.Nodes.{is_used}
use Rattle.g_graph.specs.Replace.{region_redirected, origin_replaced}

-- the test holds of an input of one of these nodes; nested regions have origins of their own
abbrev pub nodes_read : (Origin → Bool) → NodeTrees → Bool
nodes_read test no_nodes = false
nodes_read test (node_then (node id op inputs rs) ns) = some_of test inputs || nodes_read test ns

-- the test holds of an input of a node of the region, or of a result of it
abbrev pub is_read : (Origin → Bool) → RegionTree → Bool
is_read test (region args nodes results) = nodes_read test nodes || some_of test results

abbrev pub is_output_of : ℕ → Origin → Bool
is_output_of n (Arg k) = false
is_output_of n (Out m p) = n == m

-- uses of the one origin become uses of the other, where there are any
abbrev pub uses_replaced : (from to : Origin) → RegionTree → Option RegionTree
uses_replaced from to r = if is_used from r then Some (region_redirected (origin_replaced from to) r) else None
