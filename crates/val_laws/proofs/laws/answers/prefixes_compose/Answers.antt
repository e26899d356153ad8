use Rattle.val_core.proofs.lemmas.Events.{prefixes_compose}
use Rattle.val_laws.proofs.laws.answers.prefixes_compose.Goals as goal

pub returns : goal.returns
returns g c = prefixes_compose
