use Rattle.s_sequence.proofs.lemmas.Named.{names_are_below}
use Rattle.s_sequence.proofs.laws.names_are_below.Goals as goal

pub returns : goal.returns
returns c = names_are_below
