use Rattle.std.proofs.Common.{◌++◌, ◌∙◌, ap}
use Rattle.c_interp_def.specs.ExprTasks.{expr_tasks, expr_task_run}
use Rattle.c_interp_def.specs.ExprTasks as task
use Rattle.c_interp_def.specs.Laws.{of_exprs}
use Rattle.c_interp_answer.specs.TaskViews.{tasks_of, slots_of}
use Rattle.c_interp.specs.Machines.{config_of}
use Rattle.c_interp.proofs.Steps.{put_step}
use Rattle.c_interp.proofs.Statements.{expr-expands}
use Rattle.c_interp.proofs.evaluate.expand.Goals as goal

-- the tasks are those of the expression where these variables are in scope
pub returns : goal.returns
returns c = λ p n. put_step p n _ c.args.machine.now c.evaluate.new.tasks (of_exprs (expr_tasks (slots_of c.args.machine.now.slots.items) c.args.e.now)) (expr_task_run p n (task.evaluate c.args.e.now)) c.requires
    (c.in_ok-evaluate.ensures ∙ ap (λ l. tasks_of c.args.machine.now.tasks.items ++ of_exprs (expr_tasks (slots_of l) c.args.e.now)) c.deref.ensures.value) (λ m i. expr-expands p n c.args.e.now (config_of c.args.machine.now m i))
