use Rattle.r_invert.proofs.Kept.{invert_is_a_step}
use Rattle.r_invert.proofs.Replaced.{invert_replaces}
use Rattle.r_invert.proofs.laws.invert_keeps_meaning.Goals as goal

pub returns-clause-replaces : goal.returns-clause-replaces
returns-clause-replaces c = invert_replaces

pub returns-clause-step : goal.returns-clause-step
returns-clause-step c = invert_is_a_step
