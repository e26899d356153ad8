use Rattle.std.proofs.Common.{refl}
use Rattle.c_interp_def.specs.ExprTasks.{expr_task_run}
use Rattle.c_interp_def.specs.ExprTasks as task
use Rattle.c_interp.proofs.ExprSteps.{discard_step}
use Rattle.c_interp.proofs.Steps.{none_taken}
use Rattle.c_interp.proofs.expression.discard.Goals as goal

pub returns-in_default : goal.returns-in_default
returns-in_default c = λ p n. none_taken p n c.args.machine.now c.args.machine.now (expr_task_run p n task.discard) c.in_default.ensures.cases.0 (λ x. refl)

pub returns : goal.returns
returns c = λ p n. discard_step p n _ c.args.machine.now c.pop.new.self _ c.requires c.in-Some.ensures.items
