use Rattle.rv_machine.proofs.lemmas.Standing as lemma
use Rattle.rv_machine.proofs.standing_laws.standing_is_done.Goals as goal

pub returns : goal.returns
returns c = lemma.standing_is_done
