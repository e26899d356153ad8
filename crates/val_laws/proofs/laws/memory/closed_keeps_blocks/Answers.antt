use Rattle.val_laws.proofs.Lifetimes.{closed_keeps_blocks}
use Rattle.val_laws.proofs.laws.memory.closed_keeps_blocks.Goals as goal

pub returns : goal.returns
returns c = closed_keeps_blocks
