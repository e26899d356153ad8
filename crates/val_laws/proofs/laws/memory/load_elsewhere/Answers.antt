use Rattle.val_laws.proofs.Stores.{load_elsewhere}
use Rattle.val_laws.proofs.laws.memory.load_elsewhere.Goals as goal

pub returns : goal.returns
returns c = load_elsewhere
