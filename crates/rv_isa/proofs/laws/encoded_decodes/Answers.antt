use Rattle.rv_isa.proofs.lemmas.EncodedDecodes.{encoded_decodes}
use Rattle.rv_isa.proofs.laws.encoded_decodes.Goals as goal

pub returns : goal.returns
returns c = encoded_decodes
