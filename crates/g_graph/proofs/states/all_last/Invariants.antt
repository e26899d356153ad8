use Rattle.std.proofs.Common.{◌≡◌, drop}
use Rattle.g_graph.specs.Plain.{nodes_of}
use Rattle.g_graph.specs.WellFormed.{all_of, is_last}
use Rattle.g_graph.proofs.states.all_last.Given as goal

abbrev pub invariant-loop-origin : goal.invariant-loop-origin
invariant-loop-origin l = all_of (is_last l.args (nodes_of l.before)) (drop l.origin-index l.origins) ≡ all_of (is_last l.args (nodes_of l.before)) l.origins
