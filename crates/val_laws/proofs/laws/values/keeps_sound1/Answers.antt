use Rattle.val_core.proofs.lemmas.Values.{keeps_sound1}
use Rattle.val_laws.proofs.laws.values.keeps_sound1.Goals as goal

pub returns : goal.returns
returns c = keeps_sound1
