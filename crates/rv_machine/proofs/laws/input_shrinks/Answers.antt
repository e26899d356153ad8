use Rattle.rv_machine.proofs.lemmas.RunLaws.{input_shrinks}
use Rattle.rv_machine.proofs.laws.input_shrinks.Goals as goal

pub returns : goal.returns
returns c = input_shrinks
