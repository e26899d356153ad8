use Rattle.s_sequence.proofs.lemmas.Named.{params_first}
use Rattle.s_sequence.proofs.laws.params_are_first.Goals as goal

pub returns : goal.returns
returns c = params_first
