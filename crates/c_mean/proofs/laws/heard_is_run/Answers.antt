use Rattle.c_mean.proofs.Heard.{heard_is_run, heard_is_undefined, heard_extends}
use Rattle.c_mean.proofs.laws.heard_is_run.Goals as goal

pub returns-clause-agrees : goal.returns-clause-agrees
returns-clause-agrees c = heard_is_run

pub returns-clause-undefined : goal.returns-clause-undefined
returns-clause-undefined c = heard_is_undefined

pub returns-clause-extends : goal.returns-clause-extends
returns-clause-extends c = heard_extends
