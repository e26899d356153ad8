use Rattle.std.proofs.Common.{refl}
use Rattle.c_interp_def.specs.ExprTasks.{expr_task_run}
use Rattle.c_interp_def.specs.ExprTasks as task
use Rattle.c_interp.proofs.ExprSteps.{compound_set_step}
use Rattle.c_interp.proofs.Steps.{two_not_taken}
use Rattle.c_interp.proofs.variable.compound_slot.Goals as goal

pub returns-in_default : goal.returns-in_default
returns-in_default c = λ p n. two_not_taken p n c.args.machine.now c.args.machine.now (expr_task_run p n (task.compound_slot c.args.slot c.args.op c.args.t.now c.args.u.now)) c.in_default.ensures.none (λ x. refl) (λ x v. refl)

pub returns : goal.returns
returns c = λ p n. compound_set_step p n c.set.result c.args.machine.now c.set.new.machine c.two.new.operands c.in-Some.old c.in-Some.v c.args.slot c.args.op c.args.t.now c.args.u.now c.compounded-w.result c.in-Some.ensures.some c.compounded-w.ensures (c.set.ensures p n)
