use Rattle.r_edit.proofs.lemmas.Carried as lemma
use Rattle.r_edit.proofs.laws.carried_uses_move.Goals as goal

pub returns-clause-exits : goal.returns-clause-exits
returns-clause-exits c = lemma.carried_exits_go

pub returns-clause-uses : goal.returns-clause-uses
returns-clause-uses c = lemma.carried_uses_move
