use Rattle.rv_machine.proofs.lemmas.Texts.{flag_is_missing}
use Rattle.rv_machine.proofs.segment_laws.flag_is_missing.Goals as goal

pub returns : goal.returns
returns c = flag_is_missing
