use Rattle.a_place_keeps.proofs.Runs.{safe_code_does_the_same}
use Rattle.a_place_keeps.proofs.laws.safe_code_does_the_same.Goals as goal

pub returns : goal.returns
returns c = safe_code_does_the_same
