use Rattle.std.proofs.Common.{refl}
use Rattle.c_interp_answer.specs.TaskViews.{flow_of}
use Rattle.c_interp_def.specs.StmtTasks as stmt
use Rattle.c_interp_def.specs.StmtTasks.{stmt_task_run}
use Rattle.c_interp.proofs.StmtSteps.{flow_step}
use Rattle.c_interp.proofs.statement.jump.Goals as goal

pub returns : goal.returns
returns c = λ p n. flow_step p n _ c.args.machine.now c.args.flow (stmt_task_run p n (stmt.jump (flow_of c.args.flow))) (λ x. refl)
