-- The nodes of a region by their numbers, the constants among them, and the uses of an origin.
use Rattle.std.specs.Prelude.{ℕ, ◌%◌, ◌^◌, ◌==◌, ◌||◌, if◌then◌else◌, Bool, false, Option, None, Some, option_and_then}
use Rattle.g_graph.specs.declared.op.Op.{Op}
use Rattle.g_graph.specs.declared.op.Op.TheVariants.{Const}
use Rattle.g_graph.specs.declared.op.Origin.{Origin}
use Rattle.g_graph.specs.declared.op.Origin.TheVariants.{Arg, Out}
use Rattle.g_graph.specs.Plain.{RegionTree, region, NodeTree, node, NodeTrees, no_nodes, node_then, id_of}
use Rattle.g_graph.specs.Scope.{same_origin}
use Rattle.g_graph.specs.WellFormed.{some_of}

-- the first node of this number
abbrev pub node_at : ℕ → NodeTrees → Option NodeTree
node_at n no_nodes = None
node_at n (node_then x ns) = if id_of x == n then Some x else node_at n ns

-- the first node of this number replaced
abbrev pub node_set : ℕ → NodeTree → NodeTrees → NodeTrees
node_set n y no_nodes = no_nodes
node_set n y (node_then x ns) = if id_of x == n then node_then y ns else node_then x (node_set n y ns)

-- the word of a Const
abbrev pub op_word : Op → Option ℕ
op_word (Const w) = Some (w % 2 ^ 32)
op_word op = None

abbrev pub const_word : NodeTree → Option ℕ
const_word (node id op inputs rs) = op_word op

-- the word that an origin is, where a Const node of the region gives it
abbrev pub constant : NodeTrees → Origin → Option ℕ
constant nodes (Arg k) = None
constant nodes (Out n p) = if p == 0 then option_and_then const_word (node_at n nodes) else None

-- an input of one of these nodes; nested regions have origins of their own
abbrev pub nodes_use : Origin → NodeTrees → Bool
nodes_use o no_nodes = false
nodes_use o (node_then (node id op inputs rs) ns) = some_of (same_origin o) inputs || nodes_use o ns

-- an input of a node of the region, or a result of it
abbrev pub is_used : Origin → RegionTree → Bool
is_used o (region args nodes results) = nodes_use o nodes || some_of (same_origin o) results
