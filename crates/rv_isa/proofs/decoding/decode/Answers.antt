use Rattle.std.proofs.Common.{arith}
use Rattle.std.proofs.lemmas.Grind.{common_steps}
use Rattle.rv_isa.specs.Encodings.{decoded}
use Rattle.rv_isa.proofs.Decoded.{encodes_found, encoding_encodes}
use Rattle.rv_isa.proofs.decoding.decode.Goals as goal

pub returns-in-55-clause-encodes : goal.returns-in-55-clause-encodes
unfolding decoded
returns-in-55-clause-encodes c = encoding_encodes _ _ (omega arith) (grind (arith, common_steps))

pub returns-in-23-clause-encodes : goal.returns-in-23-clause-encodes
unfolding decoded
returns-in-23-clause-encodes c = encoding_encodes _ _ (omega arith) (grind (arith, common_steps))

pub returns-in-111-clause-encodes : goal.returns-in-111-clause-encodes
unfolding decoded
returns-in-111-clause-encodes c = encoding_encodes _ _ (omega arith) (grind (arith, common_steps))

pub returns-in-103-clause-encodes : goal.returns-in-103-clause-encodes
returns-in-103-clause-encodes c = encodes_found _ _ (omega arith) c.indirect_jump.ensures

pub returns-in-99-clause-encodes : goal.returns-in-99-clause-encodes
returns-in-99-clause-encodes c = encodes_found _ _ (omega arith) c.branch-word.ensures

pub returns-in-3-clause-encodes : goal.returns-in-3-clause-encodes
returns-in-3-clause-encodes c = encodes_found _ _ (omega arith) c.load.ensures

pub returns-in-35-clause-encodes : goal.returns-in-35-clause-encodes
returns-in-35-clause-encodes c = encodes_found _ _ (omega arith) c.store.ensures

pub returns-in-19-clause-encodes : goal.returns-in-19-clause-encodes
returns-in-19-clause-encodes c = encodes_found _ _ (omega arith) c.immediate_op.ensures

pub returns-in-51-clause-encodes : goal.returns-in-51-clause-encodes
returns-in-51-clause-encodes c = encodes_found _ _ (omega arith) c.register_op.ensures

pub returns-in-15-clause-encodes : goal.returns-in-15-clause-encodes
returns-in-15-clause-encodes c = encodes_found _ _ (omega arith) c.fence.ensures

pub returns-in-115-clause-encodes : goal.returns-in-115-clause-encodes
returns-in-115-clause-encodes c = encodes_found _ _ (omega arith) c.system.ensures
