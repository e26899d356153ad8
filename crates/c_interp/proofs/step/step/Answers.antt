use Rattle.std.proofs.Common.{refl, arith}
use Rattle.std.specs.Prelude.{Ok}
use Rattle.c_interp_def.specs.StmtTasks.{of_expr}
use Rattle.c_interp_answer.specs.TaskViews.{expr_task_of, flow_of}
use Rattle.c_interp.specs.Steps.{task_from}
use Rattle.c_interp.proofs.Ports.{skipped-expr, stays_step, quiet_at}
use Rattle.c_interp.proofs.Dispatch.{task_as, expr_normally}
use Rattle.c_interp.proofs.step.step.Goals as goal

pub returns-in-Normal-clause-step : goal.returns-in-Normal-clause-step
returns-in-Normal-clause-step g c =
    let p = c.args.program.now.typed.now in
    let n = c.args.program.now.bound in
    task_as p n c.do_expr.result c.args.machine.now c.do_expr.new.machine _ _ _ _ c.args.task _ c.in-OfExpr.is
    (expr_normally p n c.do_expr.result c.args.machine.now c.do_expr.new.machine _ _ _ _ c.in-OfExpr.t c.in-Normal.is c.do_expr.ensures.step)

pub returns-in_default : goal.returns-in_default
returns-in_default g c =
    let p = c.args.program.now.typed.now in
    let n = c.args.program.now.bound in
    record {
      step = task_as p n (Ok tt) c.args.machine.now c.args.machine.now _ _ ⊥ ⊥ c.args.task _ c.in-OfExpr.is
          (quiet_at p n (Ok tt) c.args.machine.now c.args.machine.now (task_from p n (of_expr (expr_task_of c.in-OfExpr.t)) (flow_of c.args.machine.now.flow)) _ ⊥ ⊥ c.requires.at_end
          (stays_step p n tt c.args.machine.now (task_from p n (of_expr (expr_task_of c.in-OfExpr.t)) (flow_of c.args.machine.now.flow)) (λ x. skipped-expr p n (expr_task_of c.in-OfExpr.t) c.args.machine.now.flow x c.in_default.not-Normal)));
      read_faults = omega arith;
      write_faults = omega arith;
      rest = refl;
    }

pub returns-in-OfStmt-clause-step : goal.returns-in-OfStmt-clause-step
returns-in-OfStmt-clause-step g c =
    let p = c.args.program.now.typed.now in
    let n = c.args.program.now.bound in
    task_as p n c.stmt_unless_jump.result c.args.machine.now c.stmt_unless_jump.new.machine _ _ _ _ c.args.task _ c.in-OfStmt.is
    (quiet_at p n c.stmt_unless_jump.result c.args.machine.now c.stmt_unless_jump.new.machine _ _ _ _ c.requires.at_end c.stmt_unless_jump.ensures)

pub returns-in-Handler-clause-step : goal.returns-in-Handler-clause-step
returns-in-Handler-clause-step g c =
    let p = c.args.program.now.typed.now in
    let n = c.args.program.now.bound in
    task_as p n c.handle.result c.args.machine.now c.handle.new.machine _ _ _ _ c.args.task _ c.in-Handler.is
    (quiet_at p n c.handle.result c.args.machine.now c.handle.new.machine _ _ _ _ c.requires.at_end c.handle.ensures)
