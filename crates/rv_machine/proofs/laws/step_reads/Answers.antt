use Rattle.rv_machine.proofs.lemmas.RunLaws.{step_reads}
use Rattle.rv_machine.proofs.laws.step_reads.Goals as goal

pub returns : goal.returns
returns c = step_reads
