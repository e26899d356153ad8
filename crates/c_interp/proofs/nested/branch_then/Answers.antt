use Rattle.c_interp_def.specs.declared.task.StmtTask.TheVariants.{RunItems}
use Rattle.c_interp_def.specs.declared.task.Task.TheVariants.{OfStmt}
use Rattle.c_interp_def.specs.StmtTasks as stmt
use Rattle.c_interp_def.specs.StmtTasks.{stmt_task_run}
use Rattle.c_interp.proofs.Steps.{with_tasks}
use Rattle.c_interp.proofs.AtOnce.{put_then, if_put}
use Rattle.c_interp.proofs.nested.branch_then.Goals as goal

pub returns : goal.returns
returns c = λ a b is.
    let p = c.args.program.now.typed.now in
    let n = c.args.program.now.bound in
    let r = c.branch_later.result in
    let old = c.args.machine.now in
    let new = c.branch_later.new.machine in
    put_then p n r old new c.push.new.self (OfStmt (RunItems c.args.rest)) (stmt_task_run p n (stmt.run_stmt c.args.a.now)) c.in_ok-push.ensures.items
    (if_put p n r (with_tasks old c.push.new.self) new c.args.a.now c.args.e.now a b is (c.branch_later.ensures n))
