use Rattle.g_mean.proofs.lemmas.Bounds.{region_is_sound, lambda_is_sound}
use Rattle.g_mean.proofs.laws.soundness_is_kept.Goals as goal

pub returns-clause-region : goal.returns-clause-region
returns-clause-region c = region_is_sound

pub returns-clause-lambda : goal.returns-clause-lambda
returns-clause-lambda c = lambda_is_sound
