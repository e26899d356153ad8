use Rattle.g_mean.proofs.lemmas.Holds as holds
use Rattle.g_mean.proofs.laws.run_nodes_hold.Goals as goal

pub returns : goal.returns
returns c = holds.run_nodes_hold
