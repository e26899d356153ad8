use Rattle.g_build_expression.proofs.lemmas.Scopes.{Renamed}
use Rattle.g_build_expression.proofs.variables.Variables.rename.Given as goal

abbrev pub invariant-loop-variable : goal.invariant-loop-variable
invariant-loop-variable l = Renamed l.node l.first l.next l.variable-items l.variable-index l.all.items
