use Rattle.val_core.proofs.lemmas.Within.{terminated_is_equal}
use Rattle.val_laws.proofs.laws.runs.terminated_is_equal.Goals as goal

pub returns : goal.returns
returns g c = terminated_is_equal g.A.Related.relate
