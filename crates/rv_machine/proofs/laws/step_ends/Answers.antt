use Rattle.rv_machine.proofs.lemmas.RunLaws.{step_ends}
use Rattle.rv_machine.proofs.laws.step_ends.Goals as goal

pub returns : goal.returns
returns c = step_ends
