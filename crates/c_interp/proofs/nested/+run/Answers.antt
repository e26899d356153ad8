-- Statements, items and turns, of which each is begun at once or becomes tasks.
use Rattle.std.proofs.Common.{rules, true, false, [], ◌≡◌, ◌-◌, ◌∷◌, ◌++◌, ◌∙◌, suc, take, refl, sym, ap, ap₂, subst, arith}
use Rattle.c_typed.specs.Typed as tree
use Rattle.c_typed.specs.Typed.{StmtTree, stmt_then}
use Rattle.c_typed.specs.StmtViews.{stmt_of, optional_of, items_of, elements_of, initial_of, declaration_of}
use Rattle.c_interp_def.specs.declared.task.Handler.TheVariants.{EndSwitch, Again}
use Rattle.c_interp_def.specs.declared.task.StmtTask.TheVariants.{RunItems}
use Rattle.c_interp_def.specs.declared.task.Slot.TheVariants.{Holds}
use Rattle.c_interp_def.specs.declared.task.Task.TheVariants.{OfStmt, Handler}
use Rattle.c_interp_def.specs.StmtTasks as stmt
use Rattle.val_core.specs.Answers.{then_on}
use Rattle.c_mean.specs.Statements.{normal}
use Rattle.c_interp_def.specs.Configurations.{reaches}
use Rattle.c_interp_def.specs.ExprTasks as task
use Rattle.c_interp_def.specs.StmtTasks.{of_expr, of_stmt, handler, optional_tasks, turn_tasks, stmt_task_run, task_run}
use Rattle.c_interp.proofs.Steps.{with_tasks}
use Rattle.c_interp.specs.Machines.{config_of}
use Rattle.c_interp.specs.Steps.{IsStep, tasks_do, turns_do}
use Rattle.c_interp.proofs.Steps.{end-cut}
use Rattle.c_interp.proofs.AtOnce.{put_then, if_step, if_put, turn_step, while_true, while_false, while_put, turns-known, turns-asked, no_items_step, last_item, first_item, none-left, is-zero, picks-true, picks-false, truth-is}
use Rattle.c_interp.proofs.Performed.{is_moved, moved_then, not_performed, performed_flow, stopped_then}
use Rattle.c_interp.proofs.Items.{expanded_step, value_items, null_items, if_items, loop_items, declared_items, declared_step, initial_step, begun_step, not_begun, turns_step}
use Rattle.c_interp.proofs.nested.+run.Goals as goal

-- ---- by the form of the statement

pub run_to-returns-then-depth-eq0 : goal.run_to-returns-then-depth-eq0
run_to-returns-then-depth-eq0 m c = c.expand.ensures c.args.program.now.typed.now

pub run_to-returns-in-Value : goal.run_to-returns-in-Value
run_to-returns-in-Value m c =
    let p = c.args.program.now.typed.now in
    let n = c.args.program.now.bound in
    let e = c.in-Value.e in
    expanded_step p n c.perform.result c.args.machine.now c.perform.new.machine c.args.a.now (tree.value e) (tasks_do p n (optional_tasks (tree.some_expr e))) (sym c.a.view_is ∙ ap stmt_of c.in-Value.is) (λ x. refl)
    (c.perform.ensures n)

pub run_to-returns-in-Block : goal.run_to-returns-in-Block
run_to-returns-in-Block m c =
    let p = c.args.program.now.typed.now in
    let n = c.args.program.now.bound in
    let is = items_of c.deref.result.now in
    expanded_step p n c.items_to.result c.args.machine.now c.items_to.new.machine c.args.a.now (tree.block is) (stmt_task_run p n (stmt.run_items is))
    (sym c.a.view_is ∙ ap stmt_of c.in-Block.is ∙ ap (λ l. tree.block (items_of l)) (sym c.deref.ensures.value)) (λ x. refl) c.items_to.ensures

pub run_to-choose_to-requires : goal.run_to-choose_to-requires
run_to-choose_to-requires m c = (search rules, (c.requires.laid, (c.requires.normal, sym c.a.view_is ∙ ap stmt_of c.in-IfElse.is ∙ ap₂ (λ s t. tree.if_else c.in-IfElse.e s t) (sym c.deref-in-IfElse.ensures) (sym c.deref-in-IfElse-2.ensures))))

pub run_to-returns-in-Loop : goal.run_to-returns-in-Loop
run_to-returns-in-Loop m c =
    let p = c.args.program.now.typed.now in
    let n = c.args.program.now.bound in
    let l = tree.loop (optional_of c.in-Loop.condition) (optional_of c.in-Loop.step) c.in-Loop.body.value in
    let here : c.args.a.now ≡ l = sym c.a.view_is ∙ ap stmt_of c.in-Loop.is in
    expanded_step p n c.loop_to.result c.args.machine.now c.loop_to.new.machine c.args.a.now l (tasks_do p n (handler stmt.end_switch ∷ of_stmt (stmt.run_turns n c.args.a.now) ∷ [])) here
    (λ x. ap (λ s. tasks_do p n (handler stmt.end_switch ∷ of_stmt (stmt.run_turns n s) ∷ []) x) (sym here)) c.loop_to.ensures

pub run_to-returns-in-DoWhile : goal.run_to-returns-in-DoWhile
run_to-returns-in-DoWhile m c =
    let p = c.args.program.now.typed.now in
    let n = c.args.program.now.bound in
    let l = tree.do_while c.in-DoWhile.body.value c.in-DoWhile.condition in
    let here : c.args.a.now ≡ l = sym c.a.view_is ∙ ap stmt_of c.in-DoWhile.is in
    expanded_step p n c.loop_to-in-DoWhile.result c.args.machine.now c.loop_to-in-DoWhile.new.machine c.args.a.now l (tasks_do p n (handler stmt.end_switch ∷ of_stmt (stmt.run_turns n c.args.a.now) ∷ [])) here
    (λ x. ap (λ s. tasks_do p n (handler stmt.end_switch ∷ of_stmt (stmt.run_turns n s) ∷ []) x) (sym here)) c.loop_to-in-DoWhile.ensures

pub run_to-returns-in-ReturnValue : goal.run_to-returns-in-ReturnValue
run_to-returns-in-ReturnValue m c =
    let p = c.args.program.now.typed.now in
    let n = c.args.program.now.bound in
    let e = c.in-ReturnValue.e in
    let here : c.args.a.now ≡ tree.return_value e = sym c.a.view_is ∙ ap stmt_of c.in-ReturnValue.is in
    subst (λ (s : StmtTree). IsStep p n c.return_value.result c.args.machine.now c.return_value.new.machine (stmt_task_run p n (stmt.run_stmt s))) (sym here) (c.return_value.ensures n)

pub run_to-returns-in-Break : goal.run_to-returns-in-Break
run_to-returns-in-Break m c =
    let p = c.args.program.now.typed.now in
    let n = c.args.program.now.bound in
    expanded_step p n c.jump.result c.args.machine.now c.jump.new.machine c.args.a.now tree.break _ (sym c.a.view_is ∙ ap stmt_of c.in-Break.is) (λ x. refl) (c.jump.ensures p n)

pub run_to-returns-in-Continue : goal.run_to-returns-in-Continue
run_to-returns-in-Continue m c =
    let p = c.args.program.now.typed.now in
    let n = c.args.program.now.bound in
    expanded_step p n c.jump-in-Continue.result c.args.machine.now c.jump-in-Continue.new.machine c.args.a.now tree.continue _ (sym c.a.view_is ∙ ap stmt_of c.in-Continue.is) (λ x. refl)
    (c.jump-in-Continue.ensures p n)

pub run_to-returns-in_default : goal.run_to-returns-in_default
run_to-returns-in_default m c = c.expand-in_default.ensures c.args.program.now.typed.now

-- ---- an `if`

pub choose_to-returns-in-Some-true : goal.choose_to-returns-in-Some-true
choose_to-returns-in-Some-true m c =
    let p = c.args.program.now.typed.now in
    let n = c.args.program.now.bound in
    let d = c.in-Some-true.field-0 in
    let a = c.args.body.now in
    let b = c.args.otherwise.now in
    if_step p n c.run_to.result c.args.machine.now c.run_to.new.machine c.args.a.now c.args.e.now a b a d c.requires.is (c.in-Some-true.ensures n) (picks-true d a b c.in-Some-true.field-0-test) c.run_to.ensures

pub choose_to-returns-in-Some-false : goal.choose_to-returns-in-Some-false
choose_to-returns-in-Some-false m c =
    let p = c.args.program.now.typed.now in
    let n = c.args.program.now.bound in
    let d = c.in-Some-false.field-0 in
    let a = c.args.body.now in
    let b = c.args.otherwise.now in
    if_step p n c.run_to-in-Some-false.result c.args.machine.now c.run_to-in-Some-false.new.machine c.args.a.now c.args.e.now a b b d c.requires.is (c.in-Some-false.ensures n)
    (picks-false d a b c.in-Some-false.field-0-test) c.run_to-in-Some-false.ensures

pub choose_to-returns-in-None : goal.choose_to-returns-in-None
choose_to-returns-in-None m c =
    let p = c.args.program.now.typed.now in
    let n = c.args.program.now.bound in
    if_put p n c.branch_later.result c.args.machine.now c.branch_later.new.machine c.args.a.now c.args.e.now c.args.body.now c.args.otherwise.now c.requires.is (c.branch_later.ensures n)

-- ---- items

pub items_to-returns-in-None : goal.items_to-returns-in-None
items_to-returns-in-None m c =
    no_items_step c.args.program.now.typed.now c.args.program.now.bound _ c.args.machine.now c.args.items.now c.requires.normal c.in-None.ensures.cases

pub items_to-returns-then-depth-eq0 : goal.items_to-returns-then-depth-eq0
items_to-returns-then-depth-eq0 m c = c.expand_items.ensures c.args.program.now.bound

pub item_to-returns-in-Statement : goal.item_to-returns-in-Statement
item_to-returns-in-Statement m c =
    let p = c.args.program.now.typed.now in
    let n = c.args.program.now.bound in
    let rest = c.args.rest.now in
    let a = c.in-Statement.a in
    let here : items_of c.args.items.now ≡ stmt_then a (items_of rest) = ap items_of c.requires.is ∙ ap (λ i. items_of (i ∷ rest)) c.in-Statement.is in
    first_item p n c.statement_to.result c.args.machine.now c.statement_to.new.machine (items_of c.args.items.now) a (items_of rest) here c.statement_to.ensures

pub item_to-variable_to-requires : goal.item_to-variable_to-requires
item_to-variable_to-requires m c = (search rules, (c.requires.laid, (c.requires.normal, ap items_of c.requires.is ∙ ap (λ i. items_of (i ∷ c.args.rest.now)) c.in-Variable.is)))

pub variable_to-returns-then-is_value : goal.variable_to-returns-then-is_value
variable_to-returns-then-is_value m c =
    declared_items c.args.program.now.typed.now c.args.program.now.bound c.declare_to.result c.args.machine.now c.declare_to.new.machine (items_of c.args.items.now) (declaration_of c.args.d.now) _ (items_of c.args.rest.now)
    c.is_value.result c.requires.is refl c.is_value.ensures c.if-is_value.true c.declare_to.ensures

pub variable_to-returns : goal.variable_to-returns
variable_to-returns m c = c.expand_items.ensures c.args.program.now.bound

pub statement_to-returns-then-is_empty : goal.statement_to-returns-then-is_empty
statement_to-returns-then-is_empty m c =
    last_item c.args.program.now.typed.now c.args.program.now.bound c.run_to.result c.args.machine.now c.run_to.new.machine c.args.a.now (items_of c.args.rest.now)
    (none-left c.args.rest.now (is-zero _ (sym c.is_empty.ensures ∙ c.if-is_empty.true))) c.run_to.ensures

pub first_to-returns-in-Value : goal.first_to-returns-in-Value
first_to-returns-in-Value m c =
    value_items c.args.program.now.typed.now c.args.program.now.bound c.value_to.result c.args.machine.now c.value_to.new.machine c.args.a.now c.in-Value.e (items_of c.args.rest.now)
    (sym c.a.view_is ∙ ap stmt_of c.in-Value.is) c.value_to.ensures

pub run_then-returns : goal.run_then-returns
run_then-returns m c =
    let p = c.args.program.now.typed.now in
    let n = c.args.program.now.bound in
    put_then p n c.run_to.result c.args.machine.now c.run_to.new.machine c.push.new.self (OfStmt (RunItems c.args.rest)) (stmt_task_run p n (stmt.run_stmt c.args.a.now)) c.in_ok-push.ensures.items c.run_to.ensures

pub first_to-returns-in-Null : goal.first_to-returns-in-Null
first_to-returns-in-Null m c =
    null_items c.args.program.now.typed.now c.args.program.now.bound c.items_to.result c.args.machine.now c.items_to.new.machine c.args.a.now (items_of c.args.rest.now)
    (sym c.a.view_is ∙ ap stmt_of c.in-Null.is) c.items_to.ensures

pub first_to-if_to-requires : goal.first_to-if_to-requires
first_to-if_to-requires m c = (search rules, (c.requires.laid, (c.requires.normal, sym c.a.view_is ∙ ap stmt_of c.in-IfElse.is ∙ ap₂ (λ s t. tree.if_else c.in-IfElse.e s t) (sym c.deref.ensures) (sym c.deref-in-IfElse.ensures))))

pub first_to-returns-in-Some : goal.first_to-returns-in-Some
first_to-returns-in-Some m c =
    let step = optional_of c.in-Loop.step in
    let e = c.in-Some.e in
    c.while_then.ensures step
    (sym c.a.view_is ∙ ap stmt_of c.in-Loop.is ∙ ap (λ d. tree.loop (optional_of d) step c.in-Loop.body.value) c.in-Some.is ∙ ap (λ z. tree.loop (tree.some_expr e) step z) (sym c.deref-in-Some.ensures))

-- ---- an `if` or a loop, and then the items after it

pub if_to-returns-in-Some-true : goal.if_to-returns-in-Some-true
if_to-returns-in-Some-true m c =
    let p = c.args.program.now.typed.now in
    let n = c.args.program.now.bound in
    let d = c.in-Some-true.field-0 in
    let a = c.args.body.now in
    let b = c.args.otherwise.now in
    if_items p n c.first_to.result c.args.machine.now c.first_to.new.machine c.args.a.now c.args.e.now a b a (items_of c.args.rest.now) d c.requires.is (c.in-Some-true.ensures n)
    (picks-true d a b c.in-Some-true.field-0-test) c.first_to.ensures

pub if_to-returns-in-Some-false : goal.if_to-returns-in-Some-false
if_to-returns-in-Some-false m c =
    let p = c.args.program.now.typed.now in
    let n = c.args.program.now.bound in
    let d = c.in-Some-false.field-0 in
    let a = c.args.body.now in
    let b = c.args.otherwise.now in
    if_items p n c.first_to-in-Some-false.result c.args.machine.now c.first_to-in-Some-false.new.machine c.args.a.now c.args.e.now a b b (items_of c.args.rest.now) d c.requires.is (c.in-Some-false.ensures n)
    (picks-false d a b c.in-Some-false.field-0-test) c.first_to-in-Some-false.ensures

pub if_to-returns-in-None : goal.if_to-returns-in-None
if_to-returns-in-None m c = c.branch_then.ensures c.args.body.now c.args.otherwise.now c.requires.is

pub while_then-returns-in-Some-true : goal.while_then-returns-in-Some-true
while_then-returns-in-Some-true m c = λ s is.
    let p = c.args.program.now.typed.now in
    let n = c.args.program.now.bound in
    let old = c.args.machine.now in
    let l = c.args.a.now in
    let e = c.args.e.now in
    loop_items p n c.turn_then.result old c.turn_then.new.machine l e s c.args.body.now (items_of c.args.rest.now) (turns_do p n (turn_tasks n l c.args.body.now)) is
    (λ k i held. turns-known p n n l e s c.args.body.now true (config_of old k i) is (truth-is p n old e _ _ c.in-Some-true.field-0-test (c.in-Some-true.ensures n) k i held)) c.turn_then.ensures

pub while_then-returns-in-Some-false : goal.while_then-returns-in-Some-false
while_then-returns-in-Some-false m c = λ s is.
    let p = c.args.program.now.typed.now in
    let n = c.args.program.now.bound in
    let old = c.args.machine.now in
    let l = c.args.a.now in
    let e = c.args.e.now in
    loop_items p n c.items_to.result old c.items_to.new.machine l e s c.args.body.now (items_of c.args.rest.now) (reaches normal) is
    (λ k i held. turns-known p n n l e s c.args.body.now false (config_of old k i) is (truth-is p n old e _ _ c.in-Some-false.field-0-test (c.in-Some-false.ensures n) k i held)) c.items_to.ensures

pub while_then-returns-in-None : goal.while_then-returns-in-None
while_then-returns-in-None m c = λ s is.
    let p = c.args.program.now.typed.now in
    let n = c.args.program.now.bound in
    let old = c.args.machine.now in
    let l = c.args.a.now in
    let e = c.args.e.now in
    loop_items p n c.ask_then.result old c.ask_then.new.machine l e s c.args.body.now (items_of c.args.rest.now) (tasks_do p n (of_stmt (stmt.turn_if n l) ∷ of_expr (task.evaluate e) ∷ [])) is
    (λ k i held. turns-asked p n n l e s c.args.body.now (config_of old k i) is) c.ask_then.ensures

pub turn_then-returns : goal.turn_then-returns
turn_then-returns m c =
    let p = c.args.program.now.typed.now in
    let n = c.args.program.now.bound in
    let r = c.turn_to.result in
    let old = c.args.machine.now in
    let new = c.turn_to.new.machine in
    let turns = turns_do p n (turn_tasks n c.args.a.now c.args.body.now) in
    put_then p n r old new c.push.new.self (OfStmt (RunItems c.args.rest)) (λ x. then_on (turns x) (task_run p n (handler stmt.end_switch))) c.in_ok-push.ensures.items
    (put_then p n r (with_tasks old c.push.new.self) new c.push-2.new.self (Handler EndSwitch) turns c.in_ok-push-2.ensures.items c.turn_to.ensures)

-- ---- turns

pub loop_to-returns : goal.loop_to-returns
loop_to-returns m c =
    let p = c.args.program.now.typed.now in
    let n = c.args.program.now.bound in
    put_then p n c.turns_to.result c.args.machine.now c.turns_to.new.machine c.push.new.self (Handler EndSwitch) (stmt_task_run p n (stmt.run_turns n c.args.a.now)) c.in_ok-push.ensures.items c.turns_to.ensures

pub turns_to-returns-in-Some : goal.turns_to-returns-in-Some
turns_to-returns-in-Some m c =
    let step = optional_of c.in-Loop.step in
    let e = c.in-Some.e in
    c.while_to.ensures step
    (sym c.a.view_is ∙ ap stmt_of c.in-Loop.is ∙ ap (λ d. tree.loop (optional_of d) step c.in-Loop.body.value) c.in-Some.is ∙ ap (λ z. tree.loop (tree.some_expr e) step z) (sym c.deref.ensures))

pub turns_to-returns-in-None : goal.turns_to-returns-in-None
turns_to-returns-in-None m c =
    let p = c.args.program.now.typed.now in
    let n = c.args.program.now.bound in
    let step = optional_of c.in-Loop.step in
    let b = c.deref-in-None.result.now in
    turns_step p n c.turn_to.result c.args.machine.now c.turn_to.new.machine c.args.turns c.args.a.now (tree.loop tree.no_expr step b) b
    (sym c.a.view_is ∙ ap stmt_of c.in-Loop.is ∙ ap (λ d. tree.loop (optional_of d) step c.in-Loop.body.value) c.in-None.is ∙ ap (λ z. tree.loop tree.no_expr step z) (sym c.deref-in-None.ensures)) tt refl
    c.turn_to.ensures

pub turns_to-returns-in-DoWhile : goal.turns_to-returns-in-DoWhile
turns_to-returns-in-DoWhile m c =
    let p = c.args.program.now.typed.now in
    let n = c.args.program.now.bound in
    let e = c.in-DoWhile.condition in
    let b = c.deref-in-DoWhile.result.now in
    turns_step p n c.turn_to-in-DoWhile.result c.args.machine.now c.turn_to-in-DoWhile.new.machine c.args.turns c.args.a.now (tree.do_while b e) b
    (sym c.a.view_is ∙ ap stmt_of c.in-DoWhile.is ∙ ap (λ z. tree.do_while z e) (sym c.deref-in-DoWhile.ensures)) tt refl c.turn_to-in-DoWhile.ensures

pub turns_to-returns-in_default : goal.turns_to-returns-in_default
turns_to-returns-in_default m c = c.put_turns.ensures c.args.program.now.typed.now c.args.program.now.bound

pub while_to-returns-in-Some-true : goal.while_to-returns-in-Some-true
while_to-returns-in-Some-true m c = λ s is.
    let p = c.args.program.now.typed.now in
    let n = c.args.program.now.bound in
    while_true p n c.turn_to.result c.args.machine.now c.turn_to.new.machine c.args.turns c.args.a.now c.args.e.now s c.args.body.now is
    (truth-is p n c.args.machine.now c.args.e.now _ _ c.in-Some-true.field-0-test (c.in-Some-true.ensures n)) c.turn_to.ensures

pub while_to-returns-in-Some-false : goal.while_to-returns-in-Some-false
while_to-returns-in-Some-false m c = λ s is.
    let p = c.args.program.now.typed.now in
    let n = c.args.program.now.bound in
    while_false p n _ c.args.machine.now c.args.turns c.args.a.now c.args.e.now s c.args.body.now c.requires.normal is
    (truth-is p n c.args.machine.now c.args.e.now _ _ c.in-Some-false.field-0-test (c.in-Some-false.ensures n))

pub while_to-returns-in-None : goal.while_to-returns-in-None
while_to-returns-in-None m c = λ s is.
    while_put c.args.program.now.typed.now c.args.program.now.bound c.ask_again.result c.args.machine.now c.ask_again.new.machine c.args.turns c.args.a.now c.args.e.now s c.args.body.now is c.ask_again.ensures

pub turn_to-returns-then-turns-eq0 : goal.turn_to-returns-then-turns-eq0
turn_to-returns-then-turns-eq0 g c = λ m held i.
    let p = c.args.program.now.typed.now in
    let n = c.args.program.now.bound in
    let x = config_of c.args.machine.now m i in
    end-cut (turns_do p n (turn_tasks c.args.turns c.args.a.now c.args.body.now) x) (ap (λ k. turns_do p n (turn_tasks k c.args.a.now c.args.body.now) x) c.if-turns-eq0.true)

pub turn_to-returns : goal.turn_to-returns
turn_to-returns m c =
    let p = c.args.program.now.typed.now in
    let n = c.args.program.now.bound in
    let j = c.args.turns - 1 in
    let is : c.args.turns ≡ suc (c.args.turns - 1) = omega (arith, c.if-turns-eq0.false) in
    turn_step p n c.run_to.result c.args.machine.now c.run_to.new.machine c.args.turns j c.args.a.now c.args.body.now is
    (put_then p n c.run_to.result c.args.machine.now c.run_to.new.machine c.push.new.self (Handler (Again j c.args.a)) (stmt_task_run p n (stmt.run_stmt c.args.body.now)) c.in_ok-push.ensures.items c.run_to.ensures)

-- ---- what is done at once, and then the items after it

pub value_to-items_to-requires : goal.value_to-items_to-requires
value_to-items_to-requires m c = (search rules, (c.requires.laid, performed_flow c.args.program.now.typed.now c.args.program.now.bound c.in-Ok-true.field-0 c.args.machine.now c.performed.new.machine _ (c.in-Ok-true.ensures c.args.program.now.bound) c.requires.normal))

pub value_to-returns-in-Ok-true : goal.value_to-returns-in-Ok-true
value_to-returns-in-Ok-true m c =
    let p = c.args.program.now.typed.now in
    let n = c.args.program.now.bound in
    let mid = c.performed.new.machine in
    let run = tasks_do p n (optional_tasks (tree.some_expr c.args.e.now)) in
    moved_then p n c.items_to.result c.args.machine.now mid c.items_to.new.machine run (stmt.run_items (items_of c.args.rest.now))
    (is_moved p n c.in-Ok-true.field-0 c.args.machine.now mid run c.in-Ok-true.field-0-test (c.in-Ok-true.ensures n)) c.items_to.ensures

pub value_to-value_later-requires-clause-normal : goal.value_to-value_later-requires-clause-normal
value_to-value_later-requires-clause-normal m c =
    performed_flow c.args.program.now.typed.now c.args.program.now.bound c.in-Ok-false.field-0 c.args.machine.now c.performed.new.machine _ (c.in-Ok-false.ensures c.args.program.now.bound) c.requires.normal

pub value_to-returns-in-Ok-false : goal.value_to-returns-in-Ok-false
value_to-returns-in-Ok-false m c =
    let p = c.args.program.now.typed.now in
    let n = c.args.program.now.bound in
    let run = tasks_do p n (optional_tasks (tree.some_expr c.args.e.now)) in
    not_performed p n c.in-Ok-false.field-0 c.value_later.result c.args.machine.now c.performed.new.machine c.value_later.new.machine run _ c.in-Ok-false.field-0-test (c.in-Ok-false.ensures n) (c.value_later.ensures n)

pub value_to-returns-in-Err : goal.value_to-returns-in-Err
value_to-returns-in-Err m c =
    let p = c.args.program.now.typed.now in
    let n = c.args.program.now.bound in
    stopped_then p n c.in-Err.stop c.args.machine.now c.performed.new.machine (tasks_do p n (optional_tasks (tree.some_expr c.args.e.now))) _ (c.in-Err.ensures n)

pub declare_to-returns-in-Value : goal.declare_to-returns-in-Value
declare_to-returns-in-Value m c =
    let p = c.args.program.now.typed.now in
    let n = c.args.program.now.bound in
    let old = c.args.machine.now in
    let i = tree.initial_value c.in-Value.e in
    let is = items_of c.args.rest.now in
    initial_step p n c.begin_to.result old c.begin_to.new.machine _ i is (ap initial_of c.in-Value.is)
    (declared_step p n c.begin_to.result old c.begin_to.new.machine c.push.new.self c.push-2.new.self _ i is (c.len-count.ensures ∙ old.slots.ok.0) c.in_ok-push.ensures.items c.in_ok-push-2.ensures.items c.begin_to.ensures)

pub declare_to-returns-in-Nothing : goal.declare_to-returns-in-Nothing
declare_to-returns-in-Nothing m c =
    let p = c.args.program.now.typed.now in
    let n = c.args.program.now.bound in
    let old = c.args.machine.now in
    let is = items_of c.args.rest.now in
    initial_step p n c.items_to.result old c.items_to.new.machine _ tree.no_initial is (ap initial_of c.in-Nothing.is)
    (declared_step p n c.items_to.result old c.items_to.new.machine c.push.new.self c.push-2.new.self _ tree.no_initial is (c.len-count.ensures ∙ old.slots.ok.0) c.in_ok-push.ensures.items c.in_ok-push-2.ensures.items
    c.items_to.ensures)

pub declare_to-returns-in-Elements : goal.declare_to-returns-in-Elements
declare_to-returns-in-Elements m c =
    let p = c.args.program.now.typed.now in
    let n = c.args.program.now.bound in
    let old = c.args.machine.now in
    let i = tree.initial_elements (elements_of c.in-Elements.field-0.items) in
    let is = items_of c.args.rest.now in
    initial_step p n c.items_to-in-Elements.result old c.items_to-in-Elements.new.machine _ i is (ap initial_of c.in-Elements.is)
    (declared_step p n c.items_to-in-Elements.result old c.items_to-in-Elements.new.machine c.push.new.self c.push-2.new.self _ i is (c.len-count.ensures ∙ old.slots.ok.0) c.in_ok-push.ensures.items
    c.in_ok-push-2.ensures.items c.items_to-in-Elements.ensures)

pub begin_to-returns-in-Some : goal.begin_to-returns-in-Some
begin_to-returns-in-Some m c = c.begin_known.ensures

pub begin_known-returns-in_default : goal.begin_known-returns-in_default
begin_known-returns-in_default m c =
    let p = c.args.program.now.typed.now in
    let n = c.args.program.now.bound in
    not_begun p n c.args.machine.now c.args.e.now c.args.v (c.requires.known n) (items_of c.args.rest.now) c.args.machine.now c.in_default.ensures

pub begin_known-returns : goal.begin_known-returns
begin_known-returns m c =
    let p = c.args.program.now.typed.now in
    let n = c.args.program.now.bound in
    let old = c.args.machine.now in
    begun_step p n old c.args.e.now c.args.v (c.requires.known n) (items_of c.args.rest.now) c.items_to.result c.items_to.new.machine c.push.new.self c.in-Some.w c.in-Some.ensures
    (c.in_ok-push.ensures.items ∙ ap (λ l. l ++ Holds c.in-Some.w ∷ []) (c.pop.ensures.rest ∙ ap (λ k. take (k - 1) old.slots.items) old.slots.ok.0)) c.items_to.ensures

pub begin_to-returns-in-None : goal.begin_to-returns-in-None
begin_to-returns-in-None m c = c.begin_later.ensures c.args.program.now.bound
