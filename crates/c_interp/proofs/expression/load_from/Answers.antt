use Rattle.std.proofs.Common.{refl}
use Rattle.c_interp_def.specs.ExprTasks.{expr_task_run}
use Rattle.c_interp_def.specs.ExprTasks as task
use Rattle.c_interp.proofs.ExprSteps.{load_step}
use Rattle.c_interp.proofs.Steps.{none_taken}
use Rattle.c_interp.proofs.expression.load_from.Goals as goal

pub returns-in_default : goal.returns-in_default
returns-in_default c = λ p n. none_taken p n c.args.machine.now c.args.machine.now (expr_task_run p n (task.load_from c.args.t.now)) c.in_default.ensures.cases.0 (λ x. refl)

pub returns : goal.returns
returns c = λ p n. load_step p n c.give.result c.args.machine.now c.give.new.machine c.pop.new.self c.in-Some.a c.args.t.now c.loaded-v.result c.in-Some.ensures.items c.loaded-v.ensures (c.give.ensures p n)
