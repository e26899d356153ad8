use Rattle.rv_machine.proofs.lemmas.Stores.{stored_is_loaded}
use Rattle.rv_machine.proofs.memory_laws.stored_is_loaded.Goals as goal

pub returns : goal.returns
returns c = stored_is_loaded
