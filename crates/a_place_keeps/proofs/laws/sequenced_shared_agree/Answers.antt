-- The code of a lambda is closed.
use Rattle.a_place_keeps.proofs.Sequenced as sequenced
use Rattle.a_place_keeps.proofs.laws.sequenced_shared_agree.Goals as goal

pub returns : goal.returns
returns c = sequenced.sequenced_shared_agree c.sequenced_code_is_closed.ensures c.shared_functions_agree.ensures
