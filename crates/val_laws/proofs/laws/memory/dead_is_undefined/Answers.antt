use Rattle.val_laws.proofs.Stores.{dead_is_undefined}
use Rattle.val_laws.proofs.laws.memory.dead_is_undefined.Goals as goal

pub returns : goal.returns
returns c = dead_is_undefined
