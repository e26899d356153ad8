use Rattle.r_sweep.proofs.Changes.{variables_go_too}
use Rattle.r_sweep.proofs.laws.loop_variables_go.Goals as goal

pub returns : goal.returns
returns c = variables_go_too
