use Rattle.a_place_keeps.proofs.Functions.{functions_agree}
use Rattle.a_place_keeps.proofs.laws.functions_agree.Goals as goal

pub returns : goal.returns
returns c = functions_agree
