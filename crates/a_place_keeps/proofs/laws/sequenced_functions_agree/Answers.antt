use Rattle.a_place_keeps.proofs.Sequenced.{sequenced_functions_agree}
use Rattle.a_place_keeps.proofs.laws.sequenced_functions_agree.Goals as goal

pub returns : goal.returns
returns c = sequenced_functions_agree c.sequenced_code_is_closed.ensures c.functions_agree.ensures
