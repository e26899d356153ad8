use Rattle.rv_machine.proofs.lemmas.RunLaws.{ended_stays}
use Rattle.rv_machine.proofs.laws.ended_stays.Goals as goal

pub returns : goal.returns
returns c = ended_stays
