use Rattle.std.proofs.Common.{◌≡◌, [], ◌∷◌, ◌∙◌, sym, ap}
use Rattle.c_typed.specs.Typed as tree
use Rattle.c_typed.specs.StmtViews.{optional_of, stmt_of}
use Rattle.c_interp_def.specs.ExprTasks as task
use Rattle.c_interp_def.specs.StmtTasks as stmt
use Rattle.c_interp_def.specs.StmtTasks.{of_expr, of_stmt, optional_tasks, again_tasks, stmt_task_run}
use Rattle.c_interp_def.specs.declared.task.Flow.TheVariants.{Normal}
use Rattle.c_interp.specs.Steps.{tasks_do}
use Rattle.c_interp.proofs.AtOnce.{again_by, flows_then}
use Rattle.c_interp.proofs.turns.go_on.Goals as goal

pub returns-in-Some : goal.returns-in-Some
returns-in-Some c =
    let p = c.args.program.now.typed.now in
    let n = c.args.program.now.bound in
    let d = optional_of c.in-Loop.condition in
    let e = c.in-Some.e in
    let b = c.in-Loop.body.value in
    let here : c.args.a.now ≡ tree.loop d (tree.some_expr e) b = sym c.a.view_is ∙ ap stmt_of c.in-Loop.is ∙ ap (λ o. tree.loop d (optional_of o) b) c.in-Some.is in
    again_by p n c.step_then.result c.args.machine.now c.step_then.new.machine c.args.turns c.args.a.now (tree.loop d (tree.some_expr e) b) (tasks_do p n (of_stmt (stmt.run_turns c.args.turns c.args.a.now) ∷ optional_tasks (tree.some_expr e))) here
    (λ x. ap (λ s. tasks_do p n (of_stmt (stmt.run_turns c.args.turns s) ∷ optional_tasks (tree.some_expr e)) x) (sym here)) c.step_then.ensures

pub returns-in-None : goal.returns-in-None
returns-in-None c =
    let p = c.args.program.now.typed.now in
    let n = c.args.program.now.bound in
    let d = optional_of c.in-Loop.condition in
    let b = c.in-Loop.body.value in
    let here : c.args.a.now ≡ tree.loop d tree.no_expr b = sym c.a.view_is ∙ ap stmt_of c.in-Loop.is ∙ ap (λ o. tree.loop d (optional_of o) b) c.in-None.is in
    again_by p n c.run_turns.result c.args.machine.now c.run_turns.new.machine c.args.turns c.args.a.now (tree.loop d tree.no_expr b) (stmt_task_run p n (stmt.run_turns c.args.turns c.args.a.now)) here
    (λ x. ap (λ s. stmt_task_run p n (stmt.run_turns c.args.turns s) x) (sym here)) c.run_turns.ensures

pub returns-in-DoWhile : goal.returns-in-DoWhile
returns-in-DoWhile c =
    let p = c.args.program.now.typed.now in
    let n = c.args.program.now.bound in
    let e = c.in-DoWhile.condition in
    let b = c.in-DoWhile.body.value in
    let here : c.args.a.now ≡ tree.do_while b e = sym c.a.view_is ∙ ap stmt_of c.in-DoWhile.is in
    again_by p n c.ask_again.result c.args.machine.now c.ask_again.new.machine c.args.turns c.args.a.now (tree.do_while b e) (tasks_do p n (of_stmt (stmt.turn_if c.args.turns c.args.a.now) ∷ of_expr (task.evaluate e) ∷ [])) here
    (λ x. ap (λ s. tasks_do p n (of_stmt (stmt.turn_if c.args.turns s) ∷ of_expr (task.evaluate e) ∷ []) x) (sym here)) c.ask_again.ensures

pub returns-in_default : goal.returns-in_default
returns-in_default c =
    let p = c.args.program.now.typed.now in
    let n = c.args.program.now.bound in
    flows_then p n c.put_again.result c.args.machine.now c.put_again.new.machine Normal (tasks_do p n (again_tasks c.args.turns c.args.a.now)) (c.put_again.ensures p n)
