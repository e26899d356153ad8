use Rattle.s_select_keeps.proofs.Items as lemma
use Rattle.s_select_keeps.proofs.laws.items_are_resolved.Goals as goal

pub returns : goal.returns
returns c = lemma.items_are_resolved
