use Rattle.r_sweep.proofs.Changes as changes
use Rattle.r_sweep.proofs.laws.nodes_go.Goals as goal

pub returns : goal.returns
returns c = changes.nodes_go
