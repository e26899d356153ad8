use Rattle.std.proofs.Common.{sym, ◌∙◌}
use Rattle.r_fold.proofs.PlanLemmas.{chosen_within, chosen_last}
use Rattle.r_fold.proofs.replacement.chosen_region.Goals as goal

pub returns-in-Some : goal.returns-in-Some
returns-in-Some c = sym (chosen_within c.args.word c.args.regions.now c.in-Some.region.now c.in-Some.ensures.lookup.3.0 c.in-Some.ensures.lookup.1)

pub returns-in-None : goal.returns-in-None
returns-in-None c = c.last.ensures.value ∙ sym (chosen_last c.args.word c.args.regions.now c.in-None.ensures.lookup.3)
