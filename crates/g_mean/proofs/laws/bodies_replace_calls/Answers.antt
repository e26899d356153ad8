use Rattle.g_mean.proofs.lemmas.LocalRefinement as local
use Rattle.g_mean.proofs.laws.bodies_replace_calls.Goals as goal

pub returns : goal.returns
returns c = local.bodies_replace_calls
