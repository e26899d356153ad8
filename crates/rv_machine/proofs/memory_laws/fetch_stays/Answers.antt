use Rattle.rv_machine.proofs.Unwritable.{fetch_stays}
use Rattle.rv_machine.proofs.memory_laws.fetch_stays.Goals as goal

pub returns : goal.returns
returns c = fetch_stays
