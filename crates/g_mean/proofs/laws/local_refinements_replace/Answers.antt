use Rattle.g_mean.proofs.lemmas.LocalRefinement as local
use Rattle.g_mean.proofs.laws.local_refinements_replace.Goals as goal

pub returns : goal.returns
returns c = local.local_refinements_replace
