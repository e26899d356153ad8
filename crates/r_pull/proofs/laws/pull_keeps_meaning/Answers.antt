use Rattle.r_pull.proofs.Step.{pull_replaces, pull_is_a_step}
use Rattle.r_pull.proofs.laws.pull_keeps_meaning.Goals as goal

pub returns-clause-replaces : goal.returns-clause-replaces
returns-clause-replaces c = pull_replaces

pub returns-clause-step : goal.returns-clause-step
returns-clause-step c = pull_is_a_step
