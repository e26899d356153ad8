use Rattle.rv_machine.proofs.lemmas.Codes as lemma
use Rattle.rv_machine.proofs.standing_laws.segment_code_stands.Goals as goal

pub returns : goal.returns
returns c = lemma.segment_code_stands
