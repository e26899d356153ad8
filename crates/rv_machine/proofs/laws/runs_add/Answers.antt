use Rattle.rv_machine.proofs.lemmas.RunLaws.{runs_add}
use Rattle.rv_machine.proofs.laws.runs_add.Goals as goal

pub returns : goal.returns
returns c = runs_add
