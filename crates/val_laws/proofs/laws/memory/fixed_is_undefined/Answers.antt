use Rattle.val_laws.proofs.Stores.{fixed_is_undefined}
use Rattle.val_laws.proofs.laws.memory.fixed_is_undefined.Goals as goal

pub returns : goal.returns
returns c = fixed_is_undefined
