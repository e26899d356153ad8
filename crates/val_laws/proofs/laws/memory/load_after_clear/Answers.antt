use Rattle.val_laws.proofs.Lifetimes.{load_after_clear}
use Rattle.val_laws.proofs.laws.memory.load_after_clear.Goals as goal

pub returns : goal.returns
returns c = load_after_clear
