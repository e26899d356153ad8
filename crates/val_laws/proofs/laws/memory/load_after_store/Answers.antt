use Rattle.val_laws.proofs.Stores.{load_after_store}
use Rattle.val_laws.proofs.laws.memory.load_after_store.Goals as goal

pub returns : goal.returns
returns c = load_after_store
