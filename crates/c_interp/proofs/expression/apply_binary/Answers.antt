use Rattle.std.proofs.Common.{refl}
use Rattle.c_interp_def.specs.ExprTasks.{expr_task_run}
use Rattle.c_interp_def.specs.ExprTasks as task
use Rattle.c_interp.proofs.ExprSteps.{binary_step}
use Rattle.c_interp.proofs.Steps.{two_not_taken}
use Rattle.c_interp.proofs.expression.apply_binary.Goals as goal

pub returns-in_default : goal.returns-in_default
returns-in_default c = λ p n. two_not_taken p n c.args.machine.now c.args.machine.now (expr_task_run p n (task.binary c.args.op c.args.t.now c.args.u.now)) c.in_default.ensures.none (λ x. refl) (λ x v. refl)

pub returns : goal.returns
returns c = λ p n. binary_step p n c.give.result c.args.machine.now c.give.new.machine c.two.new.operands c.in-Some.a c.in-Some.b c.args.op c.args.t.now c.args.u.now c.binary-made.result c.in-Some.ensures.some c.binary-made.ensures (c.give.ensures p n)
