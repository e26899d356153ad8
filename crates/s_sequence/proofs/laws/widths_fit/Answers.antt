use Rattle.s_sequence.proofs.lemmas.Instrs.{widths_fit}
use Rattle.s_sequence.proofs.laws.widths_fit.Goals as goal

pub returns : goal.returns
returns c = widths_fit
