use Rattle.std.proofs.Common.{◌∷◌, ◌∙◌, [], ap}
use Rattle.std.specs.Prelude.{Some}
use Rattle.c_interp_answer.specs.TaskViews.{task_of}
use Rattle.c_interp.specs.Machines.{config_of}
use Rattle.c_interp.specs.Steps.{choose_run, tasks_do}
use Rattle.c_interp.proofs.Steps.{undefined_step, same_step}
use Rattle.c_interp.proofs.push.choose.Goals as goal

pub returns-in-Some-true : goal.returns-in-Some-true
returns-in-Some-true c = λ p n. same_step p n c.put.result c.args.machine.now c.put.new.machine (choose_run c.args.d (tasks_do p n (task_of c.args.chosen ∷ [])) (tasks_do p n (task_of c.args.otherwise ∷ []))) (tasks_do p n (task_of c.args.chosen ∷ [])) (λ m i held. ap (λ o. choose_run o (tasks_do p n (task_of c.args.chosen ∷ [])) (tasks_do p n (task_of c.args.otherwise ∷ [])) (config_of c.args.machine.now m i)) (c.in-Some-true.is ∙ ap Some c.in-Some-true.field-0-test)) (c.put.ensures p n)

pub returns-in-Some-false : goal.returns-in-Some-false
returns-in-Some-false c = λ p n. same_step p n c.put-in-Some-false.result c.args.machine.now c.put-in-Some-false.new.machine (choose_run c.args.d (tasks_do p n (task_of c.args.chosen ∷ [])) (tasks_do p n (task_of c.args.otherwise ∷ []))) (tasks_do p n (task_of c.args.otherwise ∷ [])) (λ m i held. ap (λ o. choose_run o (tasks_do p n (task_of c.args.chosen ∷ [])) (tasks_do p n (task_of c.args.otherwise ∷ [])) (config_of c.args.machine.now m i)) (c.in-Some-false.is ∙ ap Some c.in-Some-false.field-0-test)) (c.put-in-Some-false.ensures p n)

pub returns-in-None : goal.returns-in-None
returns-in-None c = λ p n. undefined_step p n c.args.machine.now c.args.machine.now (choose_run c.args.d (tasks_do p n (task_of c.args.chosen ∷ [])) (tasks_do p n (task_of c.args.otherwise ∷ []))) (λ m i held. ap (λ o. choose_run o (tasks_do p n (task_of c.args.chosen ∷ [])) (tasks_do p n (task_of c.args.otherwise ∷ [])) (config_of c.args.machine.now m i)) c.in-None.is)
