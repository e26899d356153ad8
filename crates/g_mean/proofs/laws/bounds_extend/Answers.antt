use Rattle.g_mean.proofs.lemmas.Bounds.{region_extends, lambda_extends, program_extends}
use Rattle.g_mean.proofs.laws.bounds_extend.Goals as goal

pub returns-clause-region : goal.returns-clause-region
returns-clause-region c = region_extends

pub returns-clause-lambda : goal.returns-clause-lambda
returns-clause-lambda c = lambda_extends

pub returns-clause-program : goal.returns-clause-program
returns-clause-program c = program_extends
