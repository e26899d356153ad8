use Rattle.g_mean.proofs.lemmas.Moves as moves
use Rattle.g_mean.proofs.laws.loops_refine.Goals as goal

pub returns : goal.returns
returns g c = moves.loops_refine g.R.LoopVariables.relate
