use Rattle.val_laws.proofs.Stores.{stores_commute}
use Rattle.val_laws.proofs.laws.memory.stores_commute.Goals as goal

pub returns : goal.returns
returns c = stores_commute
