-- What a walk asks of the rule at a node.
use Rattle.std.specs.Prelude.{ℕ, List, map, option_map, option_and_then, slice_get}
use Rattle.std.specs.declared.option.Option.{Option}
use Rattle.g_graph.specs.declared.op.Op.{Op}
use Rattle.g_graph.specs.declared.op.Origin.{Origin}
use Rattle.g_graph.specs.Plain.{NodeTree, op_of, inputs_in, nodes_in, results_of, PlainLambda}
use Rattle.r_rule.specs.Optimised.{PlainOptimised}
use Rattle.r_edit.specs.Numbering.{node_count}
use Rattle.r_inline.specs.Called.{called_by}
use Rattle.r_inline.specs.Rule.{node_inlined}
use Rattle.r_walk.specs.Asks.{Made}

abbrev pub lambdas_in : List PlainOptimised → List PlainLambda
lambdas_in made = map (λ (o : PlainOptimised). o.lambda) made

-- the callee of an index
abbrev pub callee_at : (callees : List PlainLambda) → Option ℕ → Option PlainLambda
callee_at callees at = option_and_then (slice_get callees) at

-- a copy of the callee's nodes, which gives the results of its body
abbrev pub comes_at : (values next : ℕ) → Op → (inputs : List Origin) → (callee : PlainLambda) → Option Made
comes_at values next op inputs callee =
    option_map (λ r. record { nodes = nodes_in r; outputs = results_of r; taken = node_count callee.body }) (node_inlined values next callee op inputs)

-- that of the callee that is found by the number
abbrev pub made_at : (found : ℕ → Option PlainLambda) → (values next : ℕ) → NodeTree → Option Made
made_at found values next x = option_and_then (comes_at values next (op_of x) (inputs_in x)) (option_and_then found (called_by (op_of x)))
