use Rattle.rv_machine.proofs.lemmas.RunLaws.{run_goes_on}
use Rattle.rv_machine.proofs.laws.run_goes_on.Goals as goal

pub returns : goal.returns
returns c = run_goes_on
