use Rattle.std.proofs.lemmas.Bool.Decides.{nat_tests}
use Rattle.std.proofs.Common.{arith}
use Rattle.r_fold.proofs.PlanLemmas.{no_turn}
use Rattle.r_fold.proofs.replacement.has_one_turn.Goals as goal

pub returns-else-regions-eq1 : goal.returns-else-regions-eq1
returns-else-regions-eq1 c = no_turn c.args.regions.now (λ e. grind (arith, nat_tests, c.if-regions-eq1.false))
