use Rattle.g_mean.proofs.lemmas.Moves as moves
use Rattle.g_mean.proofs.laws.pure_nodes_give_the_same.Goals as goal

pub returns : goal.returns
returns c = moves.pure_nodes_give_the_same
