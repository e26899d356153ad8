-- What a rule asks a region for: the first node of an op and inputs.
use Rattle.std.specs.Prelude.{ℕ, ◌&&◌, if◌then◌else◌, Bool, true, false, List, [], ◌∷◌, Option, None, Some}
use Rattle.g_graph.specs.declared.op.Op.{Op}
use Rattle.g_graph.specs.declared.op.Origin.{Origin}
use Rattle.g_graph.specs.Plain.{NodeTree, node, NodeTrees, no_nodes, node_then, id_of}
use Rattle.g_graph.specs.Scope.{same_origin}
use Rattle.g_graph.specs.Views.{same_op}

abbrev pub same_origins : List Origin → List Origin → Bool
same_origins [] [] = true
same_origins (a ∷ xs) (b ∷ ys) = same_origin a b && same_origins xs ys
same_origins _ _ = false

abbrev pub is_node_of : Op → (inputs : List Origin) → NodeTree → Bool
is_node_of op inputs (node id op' inputs' rs) = same_op op op' && same_origins inputs inputs'

-- the number of the first of these nodes that has this op and these inputs
abbrev pub first_of : Op → (inputs : List Origin) → NodeTrees → Option ℕ
first_of op inputs no_nodes = None
first_of op inputs (node_then x ns) = if is_node_of op inputs x then Some (id_of x) else first_of op inputs ns
