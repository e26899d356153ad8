use Rattle.rv_machine.proofs.lemmas.RunLaws.{step_reaches}
use Rattle.rv_machine.proofs.laws.step_reaches.Goals as goal

pub returns : goal.returns
returns c = step_reaches
