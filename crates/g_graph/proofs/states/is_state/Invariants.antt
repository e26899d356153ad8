use Rattle.std.proofs.Common.{◌≡◌, drop}
use Rattle.g_graph.specs.Plain.{nodes_of}
use Rattle.g_graph.specs.Scope.{last_state}
use Rattle.g_graph.specs.WellFormed.{is_origin}
use Rattle.g_graph.proofs.StateLemmas.{is_after}
use Rattle.g_graph.proofs.states.is_state.Given as goal

abbrev pub invariant-loop-node : goal.invariant-loop-node
invariant-loop-node l = is_after l.kind (nodes_of (drop l.node-index l.before)) l.origin l.here ≡ is_origin (last_state l.kind l.args (nodes_of l.before)) l.origin
