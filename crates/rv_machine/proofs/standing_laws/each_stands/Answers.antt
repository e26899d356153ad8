use Rattle.rv_machine.proofs.lemmas.Standing as lemma
use Rattle.rv_machine.proofs.standing_laws.each_stands.Goals as goal

pub returns : goal.returns
returns c = lemma.each_stands
