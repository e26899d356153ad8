use Rattle.r_dne.proofs.Dne.{dne_replaces, dne_is_a_step}
use Rattle.r_dne.proofs.laws.dne_keeps_meaning.Goals as goal

pub returns-clause-replaces : goal.returns-clause-replaces
returns-clause-replaces c = dne_replaces

pub returns-clause-step : goal.returns-clause-step
returns-clause-step c = dne_is_a_step
