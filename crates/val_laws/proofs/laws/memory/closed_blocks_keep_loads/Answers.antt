use Rattle.val_laws.proofs.Lifetimes.{closed_blocks_keep_loads}
use Rattle.val_laws.proofs.laws.memory.closed_blocks_keep_loads.Goals as goal

pub returns : goal.returns
returns c = closed_blocks_keep_loads
