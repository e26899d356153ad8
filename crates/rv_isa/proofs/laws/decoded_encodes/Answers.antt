use Rattle.rv_isa.proofs.DecodedEncodes.{decoded_encodes}
use Rattle.rv_isa.proofs.laws.decoded_encodes.Goals as goal

pub returns : goal.returns
returns c = decoded_encodes
