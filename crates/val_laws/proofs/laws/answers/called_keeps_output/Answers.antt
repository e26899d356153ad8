use Rattle.val_core.proofs.lemmas.Events.{called_keeps_output}
use Rattle.val_laws.proofs.laws.answers.called_keeps_output.Goals as goal

pub returns : goal.returns
returns c = called_keeps_output
