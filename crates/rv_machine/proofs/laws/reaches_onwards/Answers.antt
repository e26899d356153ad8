use Rattle.rv_machine.proofs.lemmas.RunLaws.{reaches_onwards}
use Rattle.rv_machine.proofs.laws.reaches_onwards.Goals as goal

pub returns : goal.returns
returns c = reaches_onwards
