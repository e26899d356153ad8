use Rattle.std.proofs.Common.{◌≡◌, ◌+◌, ◌≤◌, drop}
use Rattle.std.specs.Prelude.{count_by}
use Rattle.g_graph.specs.Signatures.{output_kinds}
use Rattle.g_graph.specs.Scope.{is_of}
use Rattle.g_graph.proofs.kind_lists.count_of_outputs.Given as goal

abbrev pub invariant-loop-port : goal.invariant-loop-port
invariant-loop-port l =
    (l.count + count_by (is_of l.kind) (drop l.port (output_kinds l.node)) ≡ count_by (is_of l.kind) (output_kinds l.node)) × (l.count ≤ l.port)
