use Rattle.r_edit.proofs.lemmas.Invariant as lemma
use Rattle.r_edit.proofs.laws.loops_keep_arguments.Goals as goal

pub returns : goal.returns
returns c = lemma.loops_keep_arguments
