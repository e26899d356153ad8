use Rattle.g_mean.proofs.lemmas.Bounds as bounds
use Rattle.g_mean.proofs.laws.events_grow.Goals as goal

pub returns : goal.returns
returns c = bounds.events_grow
