use Rattle.std.proofs.Common.{map, sym, ap, ◌∙◌}
use Rattle.std.specs.Prelude.{nat_lt}
use Rattle.g_graph.specs.Plain.{nodes_of}
use Rattle.g_graph.specs.Scope.{known}
use Rattle.g_graph.proofs.KindLemmas.{some_of_count}
use Rattle.g_graph.proofs.checking.have_state.Goals as goal

pub returns : goal.returns
returns c = ap (nat_lt 0) c.count_of_origins.ensures ∙ sym (some_of_count c.args.kind (map (known c.args.args.now (nodes_of c.args.before.now)) c.args.origins.now))
