use Rattle.r_unroll.proofs.Kept.{unroll_is_a_step}
use Rattle.r_unroll.proofs.Replaced.{unroll_replaces}
use Rattle.r_unroll.proofs.laws.unroll_keeps_meaning.Goals as goal

pub returns-clause-replaces : goal.returns-clause-replaces
returns-clause-replaces c = unroll_replaces

pub returns-clause-step : goal.returns-clause-step
returns-clause-step c = unroll_is_a_step
