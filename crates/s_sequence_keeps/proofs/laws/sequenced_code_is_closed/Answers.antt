use Rattle.s_sequence_keeps.proofs.ClosedCode as code
use Rattle.s_sequence_keeps.proofs.laws.sequenced_code_is_closed.Goals as goal

pub returns : goal.returns
returns c = code.sequenced_code_is_closed
