use Rattle.c_typed.specs.Typed.{some_expr}
use Rattle.c_interp_def.specs.StmtTasks as stmt
use Rattle.c_interp_def.specs.StmtTasks.{optional_tasks}
use Rattle.c_interp.specs.Steps.{tasks_do}
use Rattle.c_interp.proofs.Performed.{is_moved, moved_then, not_performed, performed_flow, stopped_then}
use Rattle.c_interp.proofs.turns.step_then.Goals as goal

pub run_turns-requires-clause-normal : goal.run_turns-requires-clause-normal
run_turns-requires-clause-normal c =
    performed_flow c.args.program.now.typed.now c.args.program.now.bound c.in-Ok-true.field-0 c.args.machine.now c.performed.new.machine _ (c.in-Ok-true.ensures c.args.program.now.bound) c.requires.normal

pub returns-in-Ok-true : goal.returns-in-Ok-true
returns-in-Ok-true c =
    let p = c.args.program.now.typed.now in
    let n = c.args.program.now.bound in
    let mid = c.performed.new.machine in
    let run = tasks_do p n (optional_tasks (some_expr c.args.e.now)) in
    moved_then p n c.run_turns.result c.args.machine.now mid c.run_turns.new.machine run (stmt.run_turns c.args.turns c.args.a.now)
    (is_moved p n c.in-Ok-true.field-0 c.args.machine.now mid run c.in-Ok-true.field-0-test (c.in-Ok-true.ensures n)) c.run_turns.ensures

pub step_later-requires-clause-normal : goal.step_later-requires-clause-normal
step_later-requires-clause-normal c =
    performed_flow c.args.program.now.typed.now c.args.program.now.bound c.in-Ok-false.field-0 c.args.machine.now c.performed.new.machine _ (c.in-Ok-false.ensures c.args.program.now.bound) c.requires.normal

pub returns-in-Ok-false : goal.returns-in-Ok-false
returns-in-Ok-false c =
    let p = c.args.program.now.typed.now in
    let n = c.args.program.now.bound in
    let run = tasks_do p n (optional_tasks (some_expr c.args.e.now)) in
    not_performed p n c.in-Ok-false.field-0 c.step_later.result c.args.machine.now c.performed.new.machine c.step_later.new.machine run _ c.in-Ok-false.field-0-test (c.in-Ok-false.ensures n) (c.step_later.ensures n)

pub returns-in-Err : goal.returns-in-Err
returns-in-Err c =
    let p = c.args.program.now.typed.now in
    let n = c.args.program.now.bound in
    stopped_then p n c.in-Err.stop c.args.machine.now c.performed.new.machine (tasks_do p n (optional_tasks (some_expr c.args.e.now))) _ (c.in-Err.ensures n)
