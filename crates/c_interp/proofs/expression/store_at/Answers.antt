use Rattle.std.proofs.Common.{refl}
use Rattle.c_interp_def.specs.ExprTasks.{expr_task_run}
use Rattle.c_interp_def.specs.ExprTasks as task
use Rattle.c_interp.proofs.ExprSteps.{store_step}
use Rattle.c_interp.proofs.Steps.{two_not_taken}
use Rattle.c_interp.proofs.expression.store_at.Goals as goal

pub returns-in_default : goal.returns-in_default
returns-in_default c = λ p n. two_not_taken p n c.args.machine.now c.args.machine.now (expr_task_run p n (task.store_at c.args.t.now)) c.in_default.ensures.none (λ x. refl) (λ x v. refl)

pub returns : goal.returns
returns c = λ p n. store_step p n c.write.result c.args.machine.now c.write.new.machine c.two.new.operands c.in-Some.a c.in-Some.v c.args.t.now c.used.result c.in-Some.ensures.some c.used.ensures (c.write.ensures p n)
