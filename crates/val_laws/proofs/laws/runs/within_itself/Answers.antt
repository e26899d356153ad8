use Rattle.val_core.proofs.lemmas.Within.{within_itself}
use Rattle.val_laws.proofs.laws.runs.within_itself.Goals as goal

pub returns : goal.returns
returns g c = within_itself
