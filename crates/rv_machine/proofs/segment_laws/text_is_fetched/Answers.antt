use Rattle.rv_machine.proofs.lemmas.Texts.{text_is_fetched}
use Rattle.rv_machine.proofs.segment_laws.text_is_fetched.Goals as goal

pub returns : goal.returns
returns c = text_is_fetched
