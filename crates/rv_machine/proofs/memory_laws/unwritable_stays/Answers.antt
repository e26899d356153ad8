use Rattle.rv_machine.proofs.Unwritable.{unwritable_stays}
use Rattle.rv_machine.proofs.memory_laws.unwritable_stays.Goals as goal

pub returns : goal.returns
returns c = unwritable_stays
