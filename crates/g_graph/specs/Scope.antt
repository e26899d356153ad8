-- The origins that a node of a region can use: the region's arguments and the outputs of earlier nodes.
use Rattle.std.specs.Prelude.{ℕ, suc, ◌==◌, Bool, true, false, ◌&&◌, List, [], ◌∷◌, ◌++◌, map, if◌then◌else◌}
use Rattle.std.specs.declared.option.Option.{Option}
use Rattle.std.specs.declared.option.Option.TheVariants.{Some, None}
use Rattle.g_graph.specs.declared.op.Kind.{Kind}
use Rattle.g_graph.specs.declared.op.Kind.TheVariants.{Value, Memory, Io}
use Rattle.g_graph.specs.declared.op.Origin.{Origin}
use Rattle.g_graph.specs.declared.op.Origin.TheVariants.{Arg, Out}
use Rattle.g_graph.specs.Plain.{NodeTree, NodeTrees, no_nodes, node_then, nodes_of, id_of}
use Rattle.g_graph.specs.Signatures.{kind_of, kind_after, output_kinds}

abbrev pub same_kind : Kind → Kind → Bool
same_kind Value Value = true
same_kind Memory Memory = true
same_kind Io Io = true
same_kind _ _ = false

abbrev pub is_of : Kind → Option Kind → Bool
is_of k None = false
is_of k (Some j) = same_kind k j

abbrev pub same_origin : Origin → Origin → Bool
same_origin (Arg j) (Arg k) = j == k
same_origin (Out n p) (Out m q) = (n == m) && (p == q)
same_origin _ _ = false

-- the last index of this kind, counted from a first index, or what was before
abbrev pub last_index : Kind → ℕ → List (Option Kind) → Option ℕ → Option ℕ
last_index k first [] found = found
last_index k first (x ∷ xs) found = last_index k (suc first) xs (if is_of k x then Some first else found)

abbrev pub origin_at : (ℕ → Origin) → Option ℕ → Option Origin → Option Origin
origin_at make None before = before
origin_at make (Some p) before = Some (make p)

-- the kind of an origin after these nodes
abbrev pub known : List Kind → NodeTrees → Origin → Option Kind
known args before o = kind_of args (λ n p. kind_after before n p None) o

-- where a state comes from after these nodes: from the last output of its kind, where it came from `found` before
abbrev pub state_after : Kind → NodeTrees → Option Origin → Option Origin
state_after k no_nodes found = found
state_after k (node_then x xs) found = state_after k xs (origin_at (λ p. Out (id_of x) p) (last_index k 0 (output_kinds x) None) found)

-- where a state comes from after these nodes: at the start of the region from the last argument of its kind
abbrev pub last_state : Kind → List Kind → NodeTrees → Option Origin
last_state k args before = state_after k before (origin_at Arg (last_index k 0 (map Some args) None) None)

-- the test holds of each node, with the nodes before it
abbrev pub each_node : (NodeTrees → NodeTree → Bool) → (before : List NodeTree) → NodeTrees → Bool
each_node test before no_nodes = true
each_node test before (node_then x xs) = test (nodes_of before) x && each_node test (before ++ x ∷ []) xs
