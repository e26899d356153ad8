use Rattle.r_pull.proofs.Walks as walks
use Rattle.r_pull.proofs.walk_laws.pull_walks_are_sweeps.Goals as goal

pub returns : goal.returns
returns c = walks.pull_walks_are_sweeps c.pull_keeps_meaning.ensures.step
