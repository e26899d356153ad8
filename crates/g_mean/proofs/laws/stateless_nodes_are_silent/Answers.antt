use Rattle.g_mean.proofs.lemmas.Silent as silent
use Rattle.g_mean.proofs.laws.stateless_nodes_are_silent.Goals as goal

pub returns : goal.returns
returns c = silent.stateless_nodes_are_silent
