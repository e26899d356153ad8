use Rattle.std.proofs.Common.{◌≡◌}
use Rattle.g_graph.specs.Replace.{node_redirected}
use Rattle.g_graph.proofs.lemmas.Mapped.{mapped}
use Rattle.g_graph.proofs.redirect.redirect_nodes.Given as goal

abbrev pub invariant-loop-i : goal.invariant-loop-i
invariant-loop-i g l = l.nodes.items ≡ mapped (node_redirected (g.R.Redirect.redirected l.by)) l.from l.i l.initial.nodes.items
