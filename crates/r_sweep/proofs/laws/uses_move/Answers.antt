use Rattle.r_sweep.proofs.Changes.{uses_go_too}
use Rattle.r_sweep.proofs.laws.uses_move.Goals as goal

pub returns : goal.returns
returns c = uses_go_too
