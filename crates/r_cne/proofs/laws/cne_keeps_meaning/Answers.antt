use Rattle.r_cne.proofs.Cne.{cne_replaces, cne_is_a_step}
use Rattle.r_cne.proofs.Same.{cne_means_the_same}
use Rattle.r_cne.proofs.laws.cne_keeps_meaning.Goals as goal

pub returns-clause-same : goal.returns-clause-same
returns-clause-same c = cne_means_the_same

pub returns-clause-replaces : goal.returns-clause-replaces
returns-clause-replaces c = cne_replaces

pub returns-clause-step : goal.returns-clause-step
returns-clause-step c = cne_is_a_step
