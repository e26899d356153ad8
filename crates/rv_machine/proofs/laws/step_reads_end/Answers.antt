use Rattle.rv_machine.proofs.lemmas.RunLaws.{step_reads_end}
use Rattle.rv_machine.proofs.laws.step_reads_end.Goals as goal

pub returns : goal.returns
returns c = step_reads_end
