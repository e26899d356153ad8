use Rattle.rv_isa.proofs.Decoded.{some_if_matched}
use Rattle.rv_isa.proofs.laws.some_if_matched.Goals as goal

pub returns : goal.returns
returns c = some_if_matched
