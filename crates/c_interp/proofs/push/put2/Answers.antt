use Rattle.std.proofs.Common.{◌∷◌, ◌++◌, ◌∙◌, [], refl, ap, append_assoc}
use Rattle.c_interp_answer.specs.TaskViews.{task_of, tasks_of}
use Rattle.c_interp.specs.Steps.{tasks_do}
use Rattle.c_interp.proofs.Steps.{tasks-last, put_step}
use Rattle.c_interp.proofs.push.put2.Goals as goal

pub returns : goal.returns
returns c = λ p n. put_step p n _ c.args.machine.now c.push-2.new.self (task_of c.args.a ∷ task_of c.args.b ∷ []) (tasks_do p n (task_of c.args.a ∷ task_of c.args.b ∷ [])) c.requires
    (ap tasks_of c.in_ok-push-2.ensures.items ∙ tasks-last c.push.new.self.items c.args.b ∙ ap (λ l. l ++ task_of c.args.b ∷ []) (ap tasks_of c.in_ok-push.ensures.items ∙ tasks-last c.args.machine.now.tasks.items c.args.a)
    ∙ append_assoc (tasks_of c.args.machine.now.tasks.items) (task_of c.args.a ∷ []) (task_of c.args.b ∷ [])) (λ m i. refl)
