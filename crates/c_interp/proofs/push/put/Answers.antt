use Rattle.std.proofs.Common.{◌∷◌, ◌∙◌, [], refl, ap}
use Rattle.c_interp_answer.specs.TaskViews.{task_of, tasks_of}
use Rattle.c_interp.specs.Steps.{tasks_do}
use Rattle.c_interp.proofs.Steps.{tasks-last, put_step}
use Rattle.c_interp.proofs.push.put.Goals as goal

pub returns : goal.returns
returns c = λ p n. put_step p n _ c.args.machine.now c.push.new.self (task_of c.args.task ∷ []) (tasks_do p n (task_of c.args.task ∷ [])) c.requires
    (ap tasks_of c.in_ok-push.ensures.items ∙ tasks-last c.args.machine.now.tasks.items c.args.task) (λ m i. refl)
