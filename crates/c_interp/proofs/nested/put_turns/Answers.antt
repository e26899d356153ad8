use Rattle.std.proofs.Common.{◌∙◌, sym}
use Rattle.c_interp_def.specs.StmtTasks as stmt
use Rattle.c_interp_def.specs.StmtTasks.{turns_tasks, stmt_task_run}
use Rattle.c_interp_def.proofs.StmtLaws.{turns-expand}
use Rattle.c_interp_answer.specs.TaskViews.{tasks_of}
use Rattle.c_interp.specs.Machines.{config_of}
use Rattle.c_interp.proofs.Steps.{undefined_step}
use Rattle.c_interp.proofs.Statements.{loops, no-turns, turn_put, turn_cut}
use Rattle.c_interp.proofs.nested.put_turns.Goals as goal

pub returns-then-not-is_loop : goal.returns-then-not-is_loop
returns-then-not-is_loop c = λ p n. undefined_step p n c.args.machine.now c.args.machine.now (stmt_task_run p n (stmt.run_turns c.args.turns c.args.a.now))
    (λ m i held. no-turns p n c.args.turns c.args.a.now (config_of c.args.machine.now m i) (sym c.is_loop.ensures ∙ c.if-not-is_loop.true))

pub returns-then-branch : goal.returns-then-branch
returns-then-branch c = λ p n.
    turn_put p n _ c.args.machine.now c.run_turns.new.tasks (turns_tasks c.args.turns c.args.a.now) c.in_ok-run_turns.field-0 (stmt_task_run p n (stmt.run_turns c.args.turns c.args.a.now)) c.requires
    c.if-branch.true c.in_ok-run_turns.ensures (λ x. turns-expand p n c.args.turns c.args.a.now x (loops c.args.a.now (sym c.is_loop.ensures ∙ c.if-not-is_loop.false)))

pub returns-else-branch : goal.returns-else-branch
returns-else-branch c = λ p n.
    turn_cut p n c.args.machine.now c.args.machine.now (turns_tasks c.args.turns c.args.a.now) (tasks_of c.args.machine.now.tasks.items) (tasks_of c.run_turns.new.tasks.items) c.in_ok-run_turns.field-0
    (stmt_task_run p n (stmt.run_turns c.args.turns c.args.a.now)) c.if-branch.false c.in_ok-run_turns.ensures
    (λ x. turns-expand p n c.args.turns c.args.a.now x (loops c.args.a.now (sym c.is_loop.ensures ∙ c.if-not-is_loop.false)))
