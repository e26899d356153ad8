use Rattle.r_inv.proofs.Inv.{inv_is_safe, inv_stays}
use Rattle.r_inv.proofs.rule.apply.Goals as goal

pub apply-requires-clause-safe : goal.apply-requires-clause-safe
apply-requires-clause-safe c = inv_is_safe c.args.node c.args.lambda.now

pub apply-requires-clause-stays : goal.apply-requires-clause-stays
apply-requires-clause-stays c = inv_stays c.args.node c.args.lambda.now c.requires.well_formed
