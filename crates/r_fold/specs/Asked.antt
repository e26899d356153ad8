-- Folding as a walk asks it: what it says of a node.
use Rattle.std.specs.Prelude.{[], ◌∷◌, List, Option, None, Some, if◌then◌else◌, unwrap_or}
use Rattle.g_graph.specs.declared.op.Op.TheVariants.{Const, Gamma}
use Rattle.g_graph.specs.declared.op.Origin.{Origin}
use Rattle.g_graph.specs.declared.op.Origin.TheVariants.{Out}
use Rattle.g_graph.specs.Plain.{NodeTree, node, NodeTrees, no_nodes, node_then, no_regions, id_of, op_of, inputs_in}
use Rattle.g_graph.specs.Nodes.{constant}
use Rattle.r_fold.specs.Rule.{Folded, word, input, replacement, chosen_place, folding}
use Rattle.r_walk.specs.Walk.{Part, stays, becomes, opened, Asked, is_in}

-- the region of the node that comes in its place: of a Gamma the chosen one, whose results are the node's outputs; of a Theta
-- its only one, whose first result is the predicate
abbrev pub opened_of : NodeTrees → NodeTree → (inputs : List Origin) → Part
opened_of before (node id Gamma (p ∷ entries) rs) inputs = opened (chosen_place (unwrap_or (constant before p) 0) rs) inputs 0
opened_of before x inputs = opened 0 inputs 1

-- A constant has the node's number. An origin comes for uses of the output, where there is one; the node, which has no
-- regions, stays.
abbrev pub part_of : NodeTrees → (uses : List Origin) → NodeTree → Option Folded → Part
part_of before uses x None = stays
part_of before uses x (Some (word w)) = becomes (node_then (node (id_of x) (Const w) [] no_regions) no_nodes) [] 0
part_of before uses x (Some (input a)) = if is_in uses (Out (id_of x) 0) then becomes (node_then (node (id_of x) (op_of x) (inputs_in x) no_regions) no_nodes) (a ∷ []) 0 else stays
part_of before uses x (Some (replacement r inputs)) = opened_of before x inputs

abbrev pub fold_asked : Asked
fold_asked values next before uses x = part_of before uses x (folding before x)
