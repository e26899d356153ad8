use Rattle.val_core.proofs.lemmas.Events.{output_appends}
use Rattle.val_laws.proofs.laws.answers.output_appends.Goals as goal

pub returns : goal.returns
returns c = output_appends
