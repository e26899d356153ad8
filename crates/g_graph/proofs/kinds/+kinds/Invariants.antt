use Rattle.std.proofs.Common.{◌≡◌, drop}
use Rattle.std.specs.declared.option.Option.TheVariants.{None}
use Rattle.g_graph.specs.Plain.{nodes_of}
use Rattle.g_graph.specs.Signatures.{kind_after}
use Rattle.g_graph.proofs.kinds.+kinds.Given as goal

abbrev pub invariant-kind_after-loop-node : goal.invariant-kind_after-loop-node
invariant-kind_after-loop-node l = kind_after (nodes_of (drop l.node-index l.nodes)) l.id l.port l.found ≡ kind_after (nodes_of l.nodes) l.id l.port None
