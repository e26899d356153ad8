use Rattle.g_mean.proofs.lemmas.Bounds as bounds
use Rattle.g_mean.proofs.laws.nodes_in_turn.Goals as goal

pub returns : goal.returns
returns c = bounds.nodes_in_turn
