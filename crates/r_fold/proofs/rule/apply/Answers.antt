use Rattle.r_fold.proofs.Fewer.{fold_is_safe, fold_stays}
use Rattle.r_fold.proofs.rule.apply.Goals as goal

pub apply-requires-clause-safe : goal.apply-requires-clause-safe
apply-requires-clause-safe c = fold_is_safe c.args.node c.args.lambda.now

pub apply-requires-clause-stays : goal.apply-requires-clause-stays
apply-requires-clause-stays c = fold_stays c.args.node c.args.lambda.now c.requires.well_formed
