use Rattle.rv_machine.proofs.lemmas.Standing as lemma
use Rattle.rv_machine.proofs.standing_laws.text_stays.Goals as goal

pub returns : goal.returns
returns c = lemma.text_stays
