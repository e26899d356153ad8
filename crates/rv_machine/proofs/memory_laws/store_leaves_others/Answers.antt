use Rattle.rv_machine.proofs.lemmas.Stores.{store_leaves_others}
use Rattle.rv_machine.proofs.memory_laws.store_leaves_others.Goals as goal

pub returns : goal.returns
returns c = store_leaves_others
