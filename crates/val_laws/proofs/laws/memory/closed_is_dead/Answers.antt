use Rattle.val_laws.proofs.Lifetimes.{closed_is_dead}
use Rattle.val_laws.proofs.laws.memory.closed_is_dead.Goals as goal

pub returns : goal.returns
returns c = closed_is_dead
