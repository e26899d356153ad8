use Rattle.val_laws.proofs.Lifetimes.{clear_elsewhere}
use Rattle.val_laws.proofs.laws.memory.clear_elsewhere.Goals as goal

pub returns : goal.returns
returns c = clear_elsewhere
