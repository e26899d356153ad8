use Rattle.std.proofs.Common.{◌≡◌, ◌∙◌, ap, sym}
use Rattle.std.specs.Prelude.{Ok, Err}
use Rattle.c_typed.specs.Typed.{FunctionTree}
use Rattle.c_typed.specs.StmtViews.{items_of}
use Rattle.c_interp_def.specs.StmtTasks as stmt
use Rattle.c_interp_def.specs.StmtTasks.{stmt_task_run}
use Rattle.c_interp_def.specs.declared.task.Handler.TheVariants.{EndCall}
use Rattle.c_interp_def.specs.declared.task.Task.TheVariants.{Handler}
use Rattle.c_interp.specs.Machines.{config_of}
use Rattle.c_interp.proofs.Steps.{same_step, with_tasks}
use Rattle.c_interp.proofs.AtOnce.{put_then}
use Rattle.c_interp.proofs.CallSteps.{ended_step}
use Rattle.c_interp.proofs.calls.run_body.Goals as goal

pub returns-in-Ok : goal.returns-in-Ok
returns-in-Ok c =
    let p = c.args.program.now.typed.now in
    let n = c.args.program.now.bound in
    let body : items_of c.deref.result.now ≡ c.args.f.now.body = ap items_of c.deref.ensures.value ∙ ap (λ (x : FunctionTree). x.body) c.f.view_is in
    ended_step p n _ c.end_at_once.result c.args.machine.now c.run_items.new.machine c.end_at_once.new.machine c.push.new.self (stmt_task_run p n (stmt.run_items c.args.f.now.body)) c.in_ok-push.ensures.items
    (same_step p n (Ok tt) (with_tasks c.args.machine.now c.push.new.self) c.run_items.new.machine (stmt_task_run p n (stmt.run_items c.args.f.now.body)) (stmt_task_run p n (stmt.run_items (items_of c.deref.result.now)))
    (λ m i held. ap (λ l. stmt_task_run p n (stmt.run_items l) (config_of c.args.machine.now m i)) (sym body)) c.in-Ok.ensures)
    c.end_at_once.ensures

pub returns-in-Err : goal.returns-in-Err
returns-in-Err c =
    let p = c.args.program.now.typed.now in
    let n = c.args.program.now.bound in
    let body : items_of c.deref.result.now ≡ c.args.f.now.body = ap items_of c.deref.ensures.value ∙ ap (λ (x : FunctionTree). x.body) c.f.view_is in
    put_then p n (Err c.in-Err.stop) c.args.machine.now c.run_items.new.machine c.push.new.self (Handler EndCall) (stmt_task_run p n (stmt.run_items c.args.f.now.body)) c.in_ok-push.ensures.items
    (same_step p n (Err c.in-Err.stop) (with_tasks c.args.machine.now c.push.new.self) c.run_items.new.machine (stmt_task_run p n (stmt.run_items c.args.f.now.body)) (stmt_task_run p n (stmt.run_items (items_of c.deref.result.now)))
    (λ m i held. ap (λ l. stmt_task_run p n (stmt.run_items l) (config_of c.args.machine.now m i)) (sym body)) c.in-Err.ensures)
