-- The nodes of a region, the replacement, instead of a node: the arguments of the replacement become the inputs that are given
-- for them, and uses of the node's outputs become the replacement's results, in the same order. An argument or output without
-- its input or result stays as it is.
use Rattle.std.specs.Prelude.{ℕ, ◌==◌, List, map, if◌then◌else◌, unwrap_or, slice_get}
use Rattle.g_graph.specs.declared.op.Origin.{Origin}
use Rattle.g_graph.specs.declared.op.Origin.TheVariants.{Arg, Out}
use Rattle.g_graph.specs.Plain.{RegionTree, region, NodeTrees, no_nodes, node_then, id_of, PlainLambda}
use Rattle.g_graph.specs.Change.{lambda_changed, in_region_of}
use Rattle.g_graph.specs.Replace.{nodes_redirected, region_redirected}

-- an origin of the replacement, outside it
abbrev pub args_to_inputs : (inputs : List Origin) → Origin → Origin
args_to_inputs inputs (Arg k) = unwrap_or (slice_get inputs k) (Arg k)
args_to_inputs inputs (Out n p) = Out n p

-- an origin, where the outputs of the node come from `outputs`
abbrev pub outputs_to_results : (at : ℕ) → (outputs : List Origin) → Origin → Origin
outputs_to_results at outputs (Arg k) = Arg k
outputs_to_results at outputs (Out n p) = if n == at then unwrap_or (slice_get outputs p) (Out n p) else Out n p

abbrev pub joined_nodes : NodeTrees → NodeTrees → NodeTrees
joined_nodes no_nodes ys = ys
joined_nodes (node_then x xs) ys = node_then x (joined_nodes xs ys)

-- the first node of that number is exchanged for the replacement; the nodes before it use none of its outputs
abbrev pub nodes_spliced : (at : ℕ) → (replacement : NodeTrees) → (outputs : List Origin) → NodeTrees → NodeTrees
nodes_spliced at replacement outputs no_nodes = no_nodes
nodes_spliced at replacement outputs (node_then x xs) =
    if id_of x == at then joined_nodes replacement (nodes_redirected (outputs_to_results at outputs) xs) else node_then x (nodes_spliced at replacement outputs xs)

-- the replacement, whose arguments are origins of the region
abbrev pub region_spliced : (at : ℕ) → (replacement : RegionTree) → RegionTree → RegionTree
region_spliced at (region own replacement outputs) (region args nodes results) =
    region args (nodes_spliced at replacement outputs nodes) (map (outputs_to_results at outputs) results)

-- in the region that holds the node `at`
abbrev pub spliced : (at : ℕ) → (replacement : RegionTree) → (inputs : List Origin) → PlainLambda → PlainLambda
spliced at replacement inputs l = lambda_changed (in_region_of at (region_spliced at (region_redirected (args_to_inputs inputs) replacement))) l
