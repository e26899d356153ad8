use Rattle.std.proofs.Common.{◌≡◌, ◌∙◌, sym, ap}
use Rattle.c_typed.specs.Typed as tree
use Rattle.c_typed.specs.StmtViews.{optional_of, stmt_of}
use Rattle.c_typed.specs.WellTyped.{type_of}
use Rattle.c_interp_def.specs.StmtTasks as stmt
use Rattle.c_interp_def.specs.StmtTasks.{turn_tasks, stmt_task_run}
use Rattle.c_interp.specs.Machines.{config_of}
use Rattle.c_interp.specs.Steps.{turns_do, asked_do}
use Rattle.c_interp.proofs.Steps.{same_step}
use Rattle.c_interp.proofs.Statements.{asked-while}
use Rattle.c_interp.proofs.turns.turn_if.Goals as goal

pub returns-in-Some : goal.returns-in-Some
returns-in-Some c =
    let p = c.args.program.now.typed.now in
    let n = c.args.program.now.bound in
    let e = c.in-Some.e in
    let step = optional_of c.in-Loop.step in
    let b = c.deref-in-Some.result.now in
    let k = c.args.turns in
    let here : c.args.a.now ≡ tree.loop (tree.some_expr e) step b =
    sym c.a.view_is ∙ ap stmt_of c.in-Loop.is ∙ ap (λ d. tree.loop (optional_of d) step c.in-Loop.body.value) c.in-Some.is ∙ ap (λ z. tree.loop (tree.some_expr e) step z) (sym c.deref-in-Some.ensures) in
    same_step p n c.turn_while.result c.args.machine.now c.turn_while.new.machine (stmt_task_run p n (stmt.turn_if k c.args.a.now)) (asked_do c.deref.result.now (turns_do p n (turn_tasks k c.args.a.now b)))
    (λ m i held.
    let x = config_of c.args.machine.now m i in
    ap (λ s. stmt_task_run p n (stmt.turn_if k s) x) here
    ∙ asked-while p n k e step b x
    ∙ ap (λ s. asked_do (type_of e) (turns_do p n (turn_tasks k s b)) x) (sym here)
    ∙ ap (λ t. asked_do t (turns_do p n (turn_tasks k c.args.a.now b)) x) (sym (c.deref.ensures ∙ ap type_of c.e.view_is)))
    c.turn_while.ensures

pub returns-in-DoWhile : goal.returns-in-DoWhile
returns-in-DoWhile c =
    let p = c.args.program.now.typed.now in
    let n = c.args.program.now.bound in
    let e = c.in-DoWhile.condition in
    let b = c.in-DoWhile.body.value in
    let here : c.args.a.now ≡ tree.do_while b e = sym c.a.view_is ∙ ap stmt_of c.in-DoWhile.is in
    let k = c.args.turns in
    same_step p n c.turn_again.result c.args.machine.now c.turn_again.new.machine (stmt_task_run p n (stmt.turn_if k c.args.a.now)) (asked_do c.deref-in-DoWhile.result.now (stmt_task_run p n (stmt.run_turns k c.args.a.now)))
    (λ m i held.
    let x = config_of c.args.machine.now m i in
    ap (λ s. stmt_task_run p n (stmt.turn_if k s) x) here
    ∙ ap (λ s. asked_do (type_of e) (stmt_task_run p n (stmt.run_turns k s)) x) (sym here)
    ∙ ap (λ t. asked_do t (stmt_task_run p n (stmt.run_turns k c.args.a.now)) x) (sym (c.deref-in-DoWhile.ensures ∙ ap type_of c.condition.view_is)))
    (c.turn_again.ensures p n)
