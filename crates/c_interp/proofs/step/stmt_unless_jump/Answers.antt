use Rattle.c_interp_answer.specs.TaskViews.{stmt_task_of}
use Rattle.c_interp.proofs.Ports.{skipped-stmt, stays_step}
use Rattle.c_interp.proofs.Dispatch.{stmt_normally}
use Rattle.c_interp.proofs.step.stmt_unless_jump.Goals as goal

pub returns-in-Normal : goal.returns-in-Normal
returns-in-Normal c = stmt_normally c.args.program.now.typed.now c.args.program.now.bound c.do_stmt.result c.args.machine.now c.do_stmt.new.machine c.args.task c.in-Normal.is c.do_stmt.ensures

pub returns-in_default : goal.returns-in_default
returns-in_default c = stays_step c.args.program.now.typed.now c.args.program.now.bound _ c.args.machine.now _ (λ x. skipped-stmt c.args.program.now.typed.now c.args.program.now.bound (stmt_task_of c.args.task) c.args.machine.now.flow x c.in_default.not-Normal)
