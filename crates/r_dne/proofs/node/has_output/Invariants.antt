use Rattle.std.proofs.Common.{◌≡◌, drop}
use Rattle.g_graph.specs.Signatures.{output_kinds}
use Rattle.g_graph.specs.Scope.{is_of}
use Rattle.g_graph.specs.WellFormed.{some_of}
use Rattle.r_dne.proofs.node.has_output.Given as goal

abbrev pub invariant-loop-port : goal.invariant-loop-port
invariant-loop-port l = some_of (is_of l.kind) (drop l.port (output_kinds l.node)) ≡ some_of (is_of l.kind) (output_kinds l.node)
