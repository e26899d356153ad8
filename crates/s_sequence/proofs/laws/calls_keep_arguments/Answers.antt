use Rattle.s_sequence.proofs.lemmas.Instrs.{calls_keep_arguments}
use Rattle.s_sequence.proofs.laws.calls_keep_arguments.Goals as goal

pub returns : goal.returns
returns c = calls_keep_arguments
