use Rattle.val_core.proofs.lemmas.Within.{failed_is_apart}
use Rattle.val_laws.proofs.laws.runs.failed_is_apart.Goals as goal

pub returns : goal.returns
returns g c = failed_is_apart g.A.Related.relate
