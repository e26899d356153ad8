use Rattle.s_sequence.proofs.lemmas.Instrs.{objects_are_there}
use Rattle.s_sequence.proofs.laws.objects_are_there.Goals as goal

pub returns : goal.returns
returns c = objects_are_there
