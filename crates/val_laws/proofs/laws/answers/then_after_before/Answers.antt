use Rattle.val_core.proofs.lemmas.Answers.{then_after_before}
use Rattle.val_laws.proofs.laws.answers.then_after_before.Goals as goal

pub returns : goal.returns
returns g c = then_after_before
