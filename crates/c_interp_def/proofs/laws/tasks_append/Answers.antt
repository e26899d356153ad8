use Rattle.c_interp_def.proofs.StmtLaws.{tasks-append}
use Rattle.c_interp_def.proofs.laws.tasks_append.Goals as goal

pub returns : goal.returns
returns c = tasks-append
