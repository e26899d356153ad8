use Rattle.r_walk.proofs.lemmas.Walks.{walks_are_sweeps}
use Rattle.r_walk.proofs.laws.walks_are_sweeps.Goals as goal

pub returns : goal.returns
returns c = walks_are_sweeps
