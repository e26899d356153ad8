use Rattle.std.proofs.Common.{◌∷◌, []}
use Rattle.c_interp_def.specs.declared.task.StmtTask.TheVariants.{RunItems, BeginSlot}
use Rattle.c_interp_def.specs.declared.task.Task.TheVariants.{OfStmt}
use Rattle.c_interp_def.specs.ExprTasks as task
use Rattle.c_interp_def.specs.ExprTasks.{expr_task_run}
use Rattle.c_interp_def.specs.StmtTasks as stmt
use Rattle.c_interp_def.specs.StmtTasks.{of_expr, of_stmt}
use Rattle.c_interp.specs.Steps.{tasks_do}
use Rattle.c_interp.proofs.Steps.{with_tasks}
use Rattle.c_interp.proofs.AtOnce.{put_then}
use Rattle.c_interp.proofs.nested.begin_later.Goals as goal

pub returns : goal.returns
returns c = λ n.
    let p = c.args.program.now.typed.now in
    let old = c.args.machine.now in
    let new = c.evaluate_unknown.new.machine in
    let r = c.evaluate_unknown.result in
    put_then p n r old new c.push.new.self (OfStmt (RunItems c.args.rest)) (tasks_do p n (of_stmt stmt.begin_slot ∷ of_expr (task.evaluate c.args.e.now) ∷ [])) c.in_ok-push.ensures.items
    (put_then p n r (with_tasks old c.push.new.self) new c.push-2.new.self (OfStmt BeginSlot) (expr_task_run p n (task.evaluate c.args.e.now)) c.in_ok-push-2.ensures.items (c.evaluate_unknown.ensures n))
