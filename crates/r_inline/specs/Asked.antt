-- Inlining as a walk asks it: what it says of a node.
use Rattle.std.specs.Prelude.{ℕ, ◌&&◌, List, Option, None, Some, option_and_then, if◌then◌else◌}
use Rattle.g_graph.specs.declared.op.Origin.{Origin}
use Rattle.g_graph.specs.Plain.{NodeTree, op_of, inputs_in, nodes_in, results_of, PlainLambda}
use Rattle.r_edit.specs.Numbering.{node_count}
use Rattle.r_inline.specs.Called.{called_by}
use Rattle.r_inline.specs.Rule.{is_call, inlined, may_inline}
use Rattle.r_inline.specs.Callees.{numbered}
use Rattle.r_walk.specs.Walk.{Part, stays, becomes, Asked}

-- the callee that comes in the place of a node, in a lambda of so many values with this next number
abbrev pub callee_for : (callees : List PlainLambda) → (values next : ℕ) → NodeTree → Option PlainLambda
callee_for callees values next x =
    option_and_then (λ f. option_and_then (λ c. if may_inline values next c && is_call c x then Some c else None) (numbered f callees)) (called_by (op_of x))

-- a node stays, or a copy of the callee's nodes comes in its place
abbrev pub part_of : (next : ℕ) → (inputs : List Origin) → Option PlainLambda → Part
part_of next inputs None = stays
part_of next inputs (Some c) = becomes (nodes_in (inlined next c inputs)) (results_of (inlined next c inputs)) (node_count c.body)

abbrev pub inline_asked : (callees : List PlainLambda) → Asked
inline_asked callees values next before uses x = part_of next (inputs_in x) (callee_for callees values next x)
