use Rattle.val_core.proofs.lemmas.Answers.{then_associates}
use Rattle.val_laws.proofs.laws.answers.then_associates.Goals as goal

pub returns : goal.returns
returns g c = then_associates
