use Rattle.val_core.proofs.lemmas.Answers.{then_on_given}
use Rattle.val_laws.proofs.laws.answers.then_on_given.Goals as goal

pub returns : goal.returns
returns g c = then_on_given
