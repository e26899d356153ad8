use Rattle.rv_machine.proofs.lemmas.Texts.{flags_allow}
use Rattle.rv_machine.proofs.segment_laws.flags_allow.Goals as goal

pub returns : goal.returns
returns c = flags_allow
