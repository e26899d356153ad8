use Rattle.g_mean.proofs.lemmas.Moves as moves
use Rattle.g_mean.proofs.laws.moved_nodes_refine.Goals as goal

pub returns-clause-nodes : goal.returns-clause-nodes
returns-clause-nodes c = moves.moved_nodes_refine

pub returns-clause-region : goal.returns-clause-region
returns-clause-region c = moves.moved_regions_refine
