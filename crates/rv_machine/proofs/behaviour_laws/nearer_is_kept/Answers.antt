use Rattle.rv_machine.proofs.lemmas.Nearer.{nearer_is_kept}
use Rattle.rv_machine.proofs.behaviour_laws.nearer_is_kept.Goals as goal

pub returns : goal.returns
returns g c = nearer_is_kept _ _ _
