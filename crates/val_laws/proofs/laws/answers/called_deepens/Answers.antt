use Rattle.val_core.proofs.lemmas.Events.{called_deepens}
use Rattle.val_laws.proofs.laws.answers.called_deepens.Goals as goal

pub returns : goal.returns
returns c = called_deepens
