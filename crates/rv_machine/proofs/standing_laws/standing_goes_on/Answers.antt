use Rattle.rv_machine.proofs.lemmas.Standing.{standing_reaches, standing_ends}
use Rattle.rv_machine.proofs.standing_laws.standing_goes_on.Goals as goal

pub returns-clause-reaches : goal.returns-clause-reaches
returns-clause-reaches c = standing_reaches

pub returns-clause-ends : goal.returns-clause-ends
returns-clause-ends c = standing_ends
