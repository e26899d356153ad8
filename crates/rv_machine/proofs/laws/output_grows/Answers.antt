use Rattle.rv_machine.proofs.lemmas.RunLaws.{output_grows}
use Rattle.rv_machine.proofs.laws.output_grows.Goals as goal

pub returns : goal.returns
returns c = output_grows
