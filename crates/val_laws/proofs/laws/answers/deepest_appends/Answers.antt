use Rattle.val_core.proofs.lemmas.Events.{deepest_appends}
use Rattle.val_laws.proofs.laws.answers.deepest_appends.Goals as goal

pub returns : goal.returns
returns c = deepest_appends
