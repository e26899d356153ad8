-- Inlining: a copy of the called function's body in the place of a call (Reissmann et al., RVSDG, 2020, of Apply nodes).
use Rattle.std.specs.Prelude.{ℕ, ◌+◌, ◌-◌, ◌^◌, ◌==◌, nat_le, ◌&&◌, if◌then◌else◌, Bool, false, List, length, Option, None, Some, option_map, option_and_then, is_some}
use Rattle.base.specs.Limits.{most_callee_values}
use Rattle.g_graph.specs.declared.op.Op.{Op}
use Rattle.g_graph.specs.declared.op.Op.TheVariants.{Apply}
use Rattle.g_graph.specs.declared.op.Origin.{Origin}
use Rattle.g_graph.specs.Plain.{RegionTree, NodeTree, node, inputs_in, nodes_in, PlainLambda}
use Rattle.g_graph.specs.Count.{nodes_values}
use Rattle.g_graph.specs.Program.{lambda_values}
use Rattle.g_graph.specs.Nodes.{node_at}
use Rattle.g_graph.specs.Replace.{region_redirected}
use Rattle.g_graph.specs.Splice.{args_to_inputs, region_spliced}
use Rattle.g_graph.specs.Change.{region_changed, lambda_changed}
use Rattle.r_edit.specs.Size.{may_change_size}
use Rattle.r_edit.specs.Numbering.{node_count, region_numbered}

-- ---- the call

-- a call of the callee that has an input for each parameter and both states
abbrev pub calls : (callee : PlainLambda) → Op → (inputs : List Origin) → Bool
calls callee (Apply f) inputs = (f == callee.number) && (length inputs == callee.params + 2)
calls callee op inputs = false

abbrev pub is_call : (callee : PlainLambda) → NodeTree → Bool
is_call callee (node id op inputs rs) = calls callee op inputs

-- the inputs of such a call
abbrev pub inputs_of_call : (callee : PlainLambda) → NodeTree → Option (List Origin)
inputs_of_call callee x = if is_call callee x then Some (inputs_in x) else None

-- those of node n, where the region itself holds such a call
abbrev pub call_at : (n : ℕ) → (callee : PlainLambda) → RegionTree → Option (List Origin)
call_at n callee r = option_and_then (inputs_of_call callee) (node_at n (nodes_in r))

-- ---- the change

-- the callee's body with numbers from `next` on, where its arguments are these inputs
abbrev pub inlined : (next : ℕ) → (callee : PlainLambda) → (inputs : List Origin) → RegionTree
inlined next callee inputs = region_redirected (args_to_inputs inputs) (region_numbered next callee.body)

-- the region that holds the call, with the nodes of the copy in the place of the call
abbrev pub inline_here : (next n : ℕ) → (callee : PlainLambda) → RegionTree → Option RegionTree
inline_here next n callee r = option_map (λ inputs. region_spliced n (inlined next callee inputs) r) (call_at n callee r)

-- ---- the condition

-- the values of an Apply: the node and its three outputs
abbrev pub call_values : ℕ
call_values = 4

-- A lambda of so many values, whose next node has the number `next`, may take in the callee. Of the callee only the nodes
-- come along.
abbrev pub may_inline : (values next : ℕ) → (callee : PlainLambda) → Bool
may_inline values next callee =
    (length callee.objects == 0) && nat_le (lambda_values callee) most_callee_values && nat_le (next + node_count callee.body) (2 ^ 32 - 1)
    && may_change_size values (nodes_values (nodes_in callee.body)) call_values

-- ---- the rule

-- whether the rule applies at a node, and the changed lambda
abbrev pub applies : PlainLambda → ℕ → (callee : PlainLambda) → Bool
applies l n callee = may_inline (lambda_values l) l.next callee && is_some (region_changed (inline_here l.next n callee) l.body)

abbrev pub lambda_inlined : ℕ → (callee : PlainLambda) → PlainLambda → PlainLambda
lambda_inlined n callee l = record (lambda_changed (inline_here l.next n callee) l) { next = l.next + node_count callee.body }

-- what comes in the place of a node with this op and these inputs, in a lambda of so many values with this next number
abbrev pub node_inlined : (values next : ℕ) → (callee : PlainLambda) → Op → (inputs : List Origin) → Option RegionTree
node_inlined values next callee op inputs = if may_inline values next callee && calls callee op inputs then Some (inlined next callee inputs) else None
