use Rattle.std.proofs.Common.{◌≡◌, drop}
use Rattle.g_graph.specs.declared.op.Kind.TheVariants.{Value}
use Rattle.g_graph.specs.Plain.{nodes_of}
use Rattle.g_graph.specs.Scope.{known, is_of}
use Rattle.g_graph.specs.WellFormed.{all_of}
use Rattle.g_graph.proofs.kind_lists.all_values.Given as goal

abbrev pub invariant-loop-origin : goal.invariant-loop-origin
invariant-loop-origin l =
    all_of (λ o. is_of Value (known l.args (nodes_of l.before) o)) (drop l.origin-index l.origins) ≡ all_of (λ o. is_of Value (known l.args (nodes_of l.before) o)) l.origins
