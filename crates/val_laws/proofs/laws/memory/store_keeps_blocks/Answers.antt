use Rattle.val_laws.proofs.Stores.{store_keeps_blocks}
use Rattle.val_laws.proofs.laws.memory.store_keeps_blocks.Goals as goal

pub returns : goal.returns
returns c = store_keeps_blocks
