use Rattle.std.proofs.Common.{◌≡◌, drop}
use Rattle.std.specs.declared.option.Option.TheVariants.{None}
use Rattle.g_graph.specs.Signatures.{output_kinds}
use Rattle.g_graph.specs.Scope.{last_index}
use Rattle.g_graph.proofs.states.last_output.Given as goal

abbrev pub invariant-loop-port : goal.invariant-loop-port
invariant-loop-port l = last_index l.kind l.port (drop l.port (output_kinds l.node)) l.found ≡ last_index l.kind 0 (output_kinds l.node) None
