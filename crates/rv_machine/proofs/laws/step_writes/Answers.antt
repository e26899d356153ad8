use Rattle.rv_machine.proofs.lemmas.RunLaws.{step_writes}
use Rattle.rv_machine.proofs.laws.step_writes.Goals as goal

pub returns : goal.returns
returns c = step_writes
