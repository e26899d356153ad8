use Rattle.c_interp_def.proofs.StmtLaws.{statement-expands}
use Rattle.c_interp_def.specs.StmtTasks as stmt
use Rattle.c_interp_def.specs.StmtTasks.{stmt_task_run}
use Rattle.c_interp.specs.Machines.{config_of}
use Rattle.c_interp.proofs.Steps.{put_step}
use Rattle.c_interp.proofs.statement.expand.Goals as goal

pub returns : goal.returns
returns c = λ p. put_step p c.args.bound _ c.args.machine.now c.run_stmt.new.tasks _ (stmt_task_run p c.args.bound (stmt.run_stmt c.args.a.now)) c.requires c.in_ok-run_stmt.ensures (λ m i. statement-expands p c.args.bound c.args.a.now (config_of c.args.machine.now m i))
