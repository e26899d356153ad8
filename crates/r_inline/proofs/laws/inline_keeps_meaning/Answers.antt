use Rattle.r_inline.proofs.Kept.{inline_is_a_step}
use Rattle.r_inline.proofs.Replaced.{inline_replaces}
use Rattle.r_inline.proofs.laws.inline_keeps_meaning.Goals as goal

pub returns-clause-replaces : goal.returns-clause-replaces
returns-clause-replaces c = inline_replaces

pub returns-clause-step : goal.returns-clause-step
returns-clause-step c = inline_is_a_step
