use Rattle.val_core.proofs.lemmas.Values.{keeps_less_defined2}
use Rattle.val_laws.proofs.laws.values.keeps_less_defined2.Goals as goal

pub returns : goal.returns
returns c = keeps_less_defined2
