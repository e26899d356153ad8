use Rattle.std.proofs.Common.{[], refl, sym}
use Rattle.std.proofs.Common.{◌%◌}
use Rattle.val_core.specs.Answers.{Exited}
use Rattle.c_interp.specs.Steps.{number}
use Rattle.c_interp_def.specs.ExprTasks.{expr_task_run}
use Rattle.c_interp_def.specs.ExprTasks as task
use Rattle.c_interp.proofs.StmtSteps.{on-number, no_operand, exit_step, with_status}
use Rattle.c_interp.proofs.Steps.{none_taken, with_ops}
use Rattle.c_interp.proofs.streams.end_program.Goals as goal

pub returns-in_default : goal.returns-in_default
returns-in_default c = λ p n. none_taken p n c.args.machine.now c.args.machine.now (expr_task_run p n task.end_program) c.in_default.ensures.cases.0 (λ x. refl)

pub returns-in_default-number : goal.returns-in_default-number
returns-in_default-number c = λ p n. no_operand p n c.args.machine.now c.args.machine.now c.pop.new.self c.in-Some.v (number c.in-Some.v) (expr_task_run p n task.end_program) (λ x w. Exited [] (w % 256)) c.in-Some.ensures.items
    (sym c.in_default-number.ensures) (λ x vs. on-number c.in-Some.v (λ w. Exited [] (w % 256)))

pub returns : goal.returns
returns c = λ p n. exit_step p n c.args.machine.now (with_status (with_ops c.args.machine.now c.pop.new.self) (c.in-Some-number.w % 256)) c.pop.new.self c.in-Some.v c.in-Some-number.w c.in-Some.ensures.items (sym c.in-Some-number.ensures) refl
