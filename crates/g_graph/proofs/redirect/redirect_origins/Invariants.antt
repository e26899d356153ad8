use Rattle.std.proofs.Common.{◌≡◌}
use Rattle.g_graph.proofs.lemmas.Mapped.{mapped}
use Rattle.g_graph.proofs.redirect.redirect_origins.Given as goal

abbrev pub invariant-loop-origin : goal.invariant-loop-origin
invariant-loop-origin g l = l.origins ≡ mapped (g.R.Redirect.redirected l.by) 0 l.origin-index l.initial.origins
