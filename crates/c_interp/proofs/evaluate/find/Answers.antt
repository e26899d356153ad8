use Rattle.c_interp_def.specs.ExprTasks.{expr_task_run}
use Rattle.c_interp_def.specs.ExprTasks as task
use Rattle.c_interp.specs.Machines.{config_of}
use Rattle.c_interp.proofs.Steps.{put_step}
use Rattle.c_interp.proofs.Statements.{place-located}
use Rattle.c_interp.proofs.evaluate.find.Goals as goal

pub returns : goal.returns
returns c = λ p n. put_step p n _ c.args.machine.now c.locate.new.tasks _ (expr_task_run p n (task.locate c.args.q.now)) c.requires c.in_ok-locate.ensures (λ m i. place-located p n c.args.q.now (config_of c.args.machine.now m i))
