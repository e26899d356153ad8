use Rattle.rv_machine.proofs.lemmas.Standing as lemma
use Rattle.rv_machine.proofs.standing_laws.code_is_cut.Goals as goal

pub returns : goal.returns
returns c = lemma.code_is_cut
