use Rattle.c_typed.specs.Typed.{some_expr}
use Rattle.c_interp_def.specs.declared.task.Stage.TheVariants.{RunTurns}
use Rattle.c_interp_def.specs.declared.task.StmtTask.TheVariants.{OnStmt}
use Rattle.c_interp_def.specs.declared.task.Task.TheVariants.{OfStmt}
use Rattle.c_interp_def.specs.StmtTasks.{optional_tasks}
use Rattle.c_interp.specs.Steps.{tasks_do}
use Rattle.c_interp.proofs.AtOnce.{put_then}
use Rattle.c_interp.proofs.turns.step_later.Goals as goal

pub returns : goal.returns
returns c = λ n.
    let p = c.args.program.now.typed.now in
    put_then p n c.evaluate_and_drop.result c.args.machine.now c.evaluate_and_drop.new.machine c.push.new.self (OfStmt (OnStmt (RunTurns c.args.turns) c.args.a)) (tasks_do p n (optional_tasks (some_expr c.args.e.now)))
    c.in_ok-push.ensures.items (c.evaluate_and_drop.ensures n)
