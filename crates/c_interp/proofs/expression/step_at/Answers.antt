use Rattle.std.proofs.Common.{refl}
use Rattle.c_interp_def.specs.ExprTasks.{expr_task_run}
use Rattle.c_interp_def.specs.ExprTasks as task
use Rattle.c_interp.proofs.ExprSteps.{step_step}
use Rattle.c_interp.proofs.Steps.{two_not_taken}
use Rattle.c_interp.proofs.expression.step_at.Goals as goal

pub returns-in_default : goal.returns-in_default
returns-in_default c = λ p n. two_not_taken p n c.args.machine.now c.args.machine.now (expr_task_run p n (task.step_at c.args.step c.args.t.now)) c.in_default.ensures.none (λ x. refl) (λ x v. refl)

pub returns : goal.returns
returns c = λ p n. step_step p n c.write.result c.args.machine.now c.write.new.machine c.two.new.operands c.in-Some.a c.in-Some.old c.args.step c.args.t.now c.incremented-w.result c.old_of.result c.in-Some.ensures.some c.incremented-w.ensures c.old_of.ensures (c.write.ensures p n)
