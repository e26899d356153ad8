use Rattle.g_pass_work.proofs.Unstale.{staleness_comes_of_deps}
use Rattle.g_pass_work.proofs.laws.staleness_comes_of_deps.Goals as goal

pub returns : goal.returns
returns c = staleness_comes_of_deps
