use Rattle.r_inv.proofs.Inv.{inv_replaces, inv_is_a_step}
use Rattle.r_inv.proofs.laws.inv_keeps_meaning.Goals as goal

pub returns-clause-replaces : goal.returns-clause-replaces
returns-clause-replaces c = inv_replaces

pub returns-clause-step : goal.returns-clause-step
returns-clause-step c = inv_is_a_step
