use Rattle.s_select_keeps.proofs.Words as lemma
use Rattle.s_select_keeps.proofs.laws.words_are_the_same.Goals as goal

pub returns : goal.returns
returns c = lemma.words_are_the_same
