use Rattle.rv_machine.proofs.lemmas.Stores.{load_elsewhere}
use Rattle.rv_machine.proofs.memory_laws.load_elsewhere.Goals as goal

pub returns : goal.returns
returns c = load_elsewhere
