use Rattle.std.proofs.Common.{◌∷◌, []}
use Rattle.val_core.specs.Answers.{then_on}
use Rattle.c_interp_def.specs.declared.task.Handler.TheVariants.{EndSwitch}
use Rattle.c_interp_def.specs.declared.task.StmtTask.TheVariants.{RunItems}
use Rattle.c_interp_def.specs.declared.task.Task.TheVariants.{OfStmt, Handler}
use Rattle.c_interp_def.specs.ExprTasks as task
use Rattle.c_interp_def.specs.StmtTasks as stmt
use Rattle.c_interp_def.specs.StmtTasks.{of_expr, of_stmt, handler, task_run}
use Rattle.c_interp.specs.Steps.{tasks_do}
use Rattle.c_interp.proofs.Steps.{with_tasks}
use Rattle.c_interp.proofs.AtOnce.{put_then}
use Rattle.c_interp.proofs.nested.ask_then.Goals as goal

pub returns : goal.returns
returns c =
    let p = c.args.program.now.typed.now in
    let n = c.args.program.now.bound in
    let r = c.ask_again.result in
    let old = c.args.machine.now in
    let new = c.ask_again.new.machine in
    let asked = tasks_do p n (of_stmt (stmt.turn_if n c.args.a.now) ∷ of_expr (task.evaluate c.args.e.now) ∷ []) in
    put_then p n r old new c.push.new.self (OfStmt (RunItems c.args.rest)) (λ x. then_on (asked x) (task_run p n (handler stmt.end_switch))) c.in_ok-push.ensures.items
    (put_then p n r (with_tasks old c.push.new.self) new c.push-2.new.self (Handler EndSwitch) asked c.in_ok-push-2.ensures.items c.ask_again.ensures)
