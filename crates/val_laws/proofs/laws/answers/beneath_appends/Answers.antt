use Rattle.val_core.proofs.lemmas.Events.{beneath_appends}
use Rattle.val_laws.proofs.laws.answers.beneath_appends.Goals as goal

pub returns : goal.returns
returns c = beneath_appends
