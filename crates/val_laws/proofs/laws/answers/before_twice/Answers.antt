use Rattle.val_core.proofs.lemmas.Answers.{before_twice}
use Rattle.val_laws.proofs.laws.answers.before_twice.Goals as goal

pub returns : goal.returns
returns g c = before_twice
