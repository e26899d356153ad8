use Rattle.g_mean.proofs.lemmas.Copies.{copied_regions_mean_the_same, copied_nodes_mean_the_same, region-itself}
use Rattle.g_mean.proofs.laws.copies_mean_the_same.Goals as goal

pub returns-clause-region : goal.returns-clause-region
returns-clause-region c = copied_regions_mean_the_same

pub returns-clause-nodes : goal.returns-clause-nodes
returns-clause-nodes c = copied_nodes_mean_the_same

pub returns-clause-itself : goal.returns-clause-itself
returns-clause-itself c = region-itself
