use Rattle.rv_machine.proofs.lemmas.Texts.{bytes_are_loaded}
use Rattle.rv_machine.proofs.segment_laws.bytes_are_loaded.Goals as goal

pub returns : goal.returns
returns c = bytes_are_loaded
