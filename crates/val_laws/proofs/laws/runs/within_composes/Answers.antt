use Rattle.val_core.proofs.lemmas.Within.{within_composes}
use Rattle.val_laws.proofs.laws.runs.within_composes.Goals as goal

pub returns : goal.returns
returns g c = within_composes _ _ _
