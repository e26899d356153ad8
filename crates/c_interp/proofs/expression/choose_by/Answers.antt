use Rattle.std.proofs.Common.{refl}
use Rattle.c_interp_def.specs.ExprTasks.{expr_task_run}
use Rattle.c_interp_def.specs.ExprTasks as task
use Rattle.c_interp.proofs.ExprSteps.{choose_step}
use Rattle.c_interp.proofs.Steps.{none_taken}
use Rattle.c_interp.proofs.expression.choose_by.Goals as goal

pub returns-in_default : goal.returns-in_default
returns-in_default c = λ p n. none_taken p n c.args.machine.now c.args.machine.now (expr_task_run p n (task.choose c.args.t.now c.args.a.now c.args.b.now)) c.in_default.ensures.cases.0 (λ x. refl)

pub returns : goal.returns
returns c = λ p n. choose_step p n c.choose.result c.args.machine.now c.choose.new.machine c.pop.new.self c.in-Some.v c.args.t.now c.args.a.now c.args.b.now c.truth.result c.in-Some.ensures.items c.truth.ensures (c.choose.ensures p n)
