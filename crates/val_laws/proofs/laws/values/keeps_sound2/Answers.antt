use Rattle.val_core.proofs.lemmas.Values.{keeps_sound2}
use Rattle.val_laws.proofs.laws.values.keeps_sound2.Goals as goal

pub returns : goal.returns
returns c = keeps_sound2
