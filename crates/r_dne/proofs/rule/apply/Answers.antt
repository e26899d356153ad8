use Rattle.r_dne.proofs.Dne.{dne_is_safe, dne_stays}
use Rattle.r_dne.proofs.rule.apply.Goals as goal

pub apply-requires-clause-safe : goal.apply-requires-clause-safe
apply-requires-clause-safe c = dne_is_safe c.args.node c.args.lambda.now

pub apply-requires-clause-stays : goal.apply-requires-clause-stays
apply-requires-clause-stays c = dne_stays c.args.node c.args.lambda.now c.requires.well_formed
