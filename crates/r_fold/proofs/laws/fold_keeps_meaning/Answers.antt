use Rattle.r_fold.proofs.Fewer.{fold_is_a_step}
use Rattle.r_fold.proofs.Fold.{fold_replaces}
use Rattle.r_fold.proofs.laws.fold_keeps_meaning.Goals as goal

pub returns-clause-replaces : goal.returns-clause-replaces
returns-clause-replaces c = fold_replaces

pub returns-clause-step : goal.returns-clause-step
returns-clause-step c = fold_is_a_step
