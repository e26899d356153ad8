use Rattle.c_interp_def.specs.declared.task.StmtTask.TheVariants.{ReturnIt}
use Rattle.c_interp_def.specs.declared.task.Task.TheVariants.{OfStmt}
use Rattle.c_interp_def.specs.ExprTasks as task
use Rattle.c_interp_def.specs.ExprTasks.{expr_task_run}
use Rattle.c_interp.proofs.AtOnce.{put_then, return_put}
use Rattle.c_interp.proofs.statement.return_later.Goals as goal

pub returns : goal.returns
returns c = λ n.
    let p = c.args.program.now.typed.now in
    return_put p n c.evaluate_unknown.result c.args.machine.now c.evaluate_unknown.new.machine c.args.e.now
    (put_then p n c.evaluate_unknown.result c.args.machine.now c.evaluate_unknown.new.machine c.push.new.self (OfStmt ReturnIt) (expr_task_run p n (task.evaluate c.args.e.now)) c.in_ok-push.ensures.items (c.evaluate_unknown.ensures n))
