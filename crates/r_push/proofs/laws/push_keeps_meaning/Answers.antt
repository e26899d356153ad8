use Rattle.r_push.proofs.Kept.{push_is_a_step}
use Rattle.r_push.proofs.Replaced.{push_replaces}
use Rattle.r_push.proofs.laws.push_keeps_meaning.Goals as goal

pub returns-clause-replaces : goal.returns-clause-replaces
returns-clause-replaces c = push_replaces

pub returns-clause-step : goal.returns-clause-step
returns-clause-step c = push_is_a_step
