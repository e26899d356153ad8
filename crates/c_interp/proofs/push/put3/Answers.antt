use Rattle.std.proofs.Common.{[], ◌∷◌}
use Rattle.c_interp_answer.specs.TaskViews.{task_of}
use Rattle.c_interp.specs.Steps.{tasks_do}
use Rattle.c_interp.proofs.AtOnce.{put_then}
use Rattle.c_interp.proofs.push.put3.Goals as goal

pub returns : goal.returns
returns c = λ p n.
    put_then p n c.put2.result c.args.machine.now c.put2.new.machine c.push.new.self c.args.a (tasks_do p n (task_of c.args.b ∷ task_of c.args.c ∷ [])) c.in_ok-push.ensures.items (c.put2.ensures p n)
