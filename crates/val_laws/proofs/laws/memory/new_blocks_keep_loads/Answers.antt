use Rattle.val_laws.proofs.Lifetimes.{new_blocks_keep_loads}
use Rattle.val_laws.proofs.laws.memory.new_blocks_keep_loads.Goals as goal

pub returns : goal.returns
returns c = new_blocks_keep_loads
