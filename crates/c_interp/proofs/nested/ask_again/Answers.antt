use Rattle.c_interp_def.specs.declared.task.Stage.TheVariants.{TurnIf}
use Rattle.c_interp_def.specs.declared.task.StmtTask.TheVariants.{OnStmt}
use Rattle.c_interp_def.specs.declared.task.Task.TheVariants.{OfStmt}
use Rattle.c_interp_def.specs.ExprTasks as task
use Rattle.c_interp_def.specs.ExprTasks.{expr_task_run}
use Rattle.c_interp.proofs.AtOnce.{put_then}
use Rattle.c_interp.proofs.nested.ask_again.Goals as goal

pub returns : goal.returns
returns c =
    let p = c.args.program.now.typed.now in
    let n = c.args.program.now.bound in
    put_then p n c.evaluate_unknown.result c.args.machine.now c.evaluate_unknown.new.machine c.push.new.self (OfStmt (OnStmt (TurnIf c.args.turns) c.args.a)) (expr_task_run p n (task.evaluate c.args.e.now)) c.in_ok-push.ensures.items (c.evaluate_unknown.ensures n)
