use Rattle.val_core.proofs.lemmas.Answers.{then_nothing}
use Rattle.val_laws.proofs.laws.answers.then_nothing.Goals as goal

pub returns : goal.returns
returns g c = then_nothing
