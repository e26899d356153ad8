use Rattle.g_mean.proofs.lemmas.Kinds.{well_formed_keep_meaning}
use Rattle.g_mean.proofs.lemmas.Programs.{programs_keep_meaning}
use Rattle.g_mean.proofs.lemmas.Replacement.{lambdas_keep_meaning, regions_keep_meaning}
use Rattle.g_mean.proofs.laws.replacement_keeps_meaning.Goals as goal

pub returns-clause-lambda : goal.returns-clause-lambda
returns-clause-lambda c = lambdas_keep_meaning

pub returns-clause-region : goal.returns-clause-region
returns-clause-region c = regions_keep_meaning

pub returns-clause-program : goal.returns-clause-program
returns-clause-program c = programs_keep_meaning

pub returns-clause-well_formed : goal.returns-clause-well_formed
returns-clause-well_formed c = well_formed_keep_meaning
