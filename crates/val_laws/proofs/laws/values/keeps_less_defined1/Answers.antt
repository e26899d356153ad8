use Rattle.val_core.proofs.lemmas.Values.{keeps_less_defined1}
use Rattle.val_laws.proofs.laws.values.keeps_less_defined1.Goals as goal

pub returns : goal.returns
returns c = keeps_less_defined1
