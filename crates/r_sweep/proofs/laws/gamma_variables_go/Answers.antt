use Rattle.r_sweep.proofs.Changes.{exits_go_too, entries_go_too}
use Rattle.r_sweep.proofs.laws.gamma_variables_go.Goals as goal

pub returns-clause-exits : goal.returns-clause-exits
returns-clause-exits c = exits_go_too

pub returns-clause-entries : goal.returns-clause-entries
returns-clause-entries c = entries_go_too
