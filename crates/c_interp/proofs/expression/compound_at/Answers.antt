use Rattle.std.proofs.Common.{refl}
use Rattle.c_interp_def.specs.ExprTasks.{expr_task_run}
use Rattle.c_interp_def.specs.ExprTasks as task
use Rattle.c_interp.proofs.ExprSteps.{compound_step}
use Rattle.c_interp.proofs.Steps.{three_not_taken}
use Rattle.c_interp.proofs.expression.compound_at.Goals as goal

pub returns-in_default : goal.returns-in_default
returns-in_default c = λ p n. three_not_taken p n c.args.machine.now c.args.machine.now (expr_task_run p n (task.compound_at c.args.op c.args.t.now c.args.u.now)) c.in_default.ensures.none (λ x. refl) (λ x v. refl) (λ x v w. refl)

pub returns : goal.returns
returns c = λ p n. compound_step p n c.write.result c.args.machine.now c.write.new.machine c.three.new.operands c.in-Some.a c.in-Some.old c.in-Some.v c.args.op c.args.t.now c.args.u.now c.compounded-w.result c.in-Some.ensures.some c.compounded-w.ensures (c.write.ensures p n)
