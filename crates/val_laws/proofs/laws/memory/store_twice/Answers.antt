use Rattle.val_laws.proofs.Stores.{store_twice}
use Rattle.val_laws.proofs.laws.memory.store_twice.Goals as goal

pub returns : goal.returns
returns c = store_twice
