use Rattle.rv_machine.proofs.lemmas.Texts.{segment_is_in_memory}
use Rattle.rv_machine.proofs.segment_laws.segment_is_in_memory.Goals as goal

pub returns : goal.returns
returns c = segment_is_in_memory
