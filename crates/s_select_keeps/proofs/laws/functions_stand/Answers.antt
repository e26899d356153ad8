use Rattle.s_select_keeps.proofs.Items as lemma
use Rattle.s_select_keeps.proofs.laws.functions_stand.Goals as goal

pub returns : goal.returns
returns c = lemma.functions_stand
