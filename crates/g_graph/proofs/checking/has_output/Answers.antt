use Rattle.std.proofs.Common.{sym, ap, ◌∙◌}
use Rattle.std.specs.Prelude.{nat_lt}
use Rattle.g_graph.specs.Signatures.{output_kinds}
use Rattle.g_graph.proofs.KindLemmas.{some_of_count}
use Rattle.g_graph.proofs.checking.has_output.Goals as goal

pub returns : goal.returns
returns c = ap (nat_lt 0) c.count_of_outputs.ensures ∙ sym (some_of_count c.args.kind (output_kinds c.args.node.now))
