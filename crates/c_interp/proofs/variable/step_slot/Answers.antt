use Rattle.std.proofs.Common.{refl}
use Rattle.c_interp_def.specs.ExprTasks.{expr_task_run}
use Rattle.c_interp_def.specs.ExprTasks as task
use Rattle.c_interp.proofs.ExprSteps.{step_set_step}
use Rattle.c_interp.proofs.Steps.{none_taken}
use Rattle.c_interp.proofs.variable.step_slot.Goals as goal

pub returns-in_default : goal.returns-in_default
returns-in_default c = λ p n. none_taken p n c.args.machine.now c.args.machine.now (expr_task_run p n (task.step_slot c.args.slot c.args.step c.args.t.now)) c.in_default.ensures.cases.0 (λ x. refl)

pub returns : goal.returns
returns c = λ p n. step_set_step p n c.set.result c.args.machine.now c.set.new.machine c.pop.new.self c.in-Some.old c.args.slot c.args.step c.args.t.now c.incremented-w.result c.old_of.result c.in-Some.ensures.items c.incremented-w.ensures c.old_of.ensures (c.set.ensures p n)
