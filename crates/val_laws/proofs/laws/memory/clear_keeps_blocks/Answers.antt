use Rattle.val_laws.proofs.Lifetimes.{clear_keeps_blocks}
use Rattle.val_laws.proofs.laws.memory.clear_keeps_blocks.Goals as goal

pub returns : goal.returns
returns c = clear_keeps_blocks
