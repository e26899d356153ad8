use Rattle.r_cne.proofs.Cne.{cne_is_safe, cne_stays}
use Rattle.r_cne.proofs.rule.apply.Goals as goal

pub apply-requires-clause-safe : goal.apply-requires-clause-safe
apply-requires-clause-safe c = cne_is_safe c.args.node c.args.lambda.now

pub apply-requires-clause-stays : goal.apply-requires-clause-stays
apply-requires-clause-stays c = cne_stays c.args.node c.args.lambda.now c.requires.well_formed
