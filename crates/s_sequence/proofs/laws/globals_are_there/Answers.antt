use Rattle.s_sequence.proofs.lemmas.Instrs.{globals_are_there}
use Rattle.s_sequence.proofs.laws.globals_are_there.Goals as goal

pub returns : goal.returns
returns c = globals_are_there
