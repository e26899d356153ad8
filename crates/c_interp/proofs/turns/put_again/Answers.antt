use Rattle.std.proofs.Common.{refl}
use Rattle.c_interp_def.specs.StmtTasks.{again_tasks}
use Rattle.c_interp.specs.Steps.{tasks_do}
use Rattle.c_interp.proofs.Steps.{put_step}
use Rattle.c_interp.proofs.turns.put_again.Goals as goal

pub returns : goal.returns
returns c = λ p n. put_step p n _ c.args.machine.now c.again.new.tasks (again_tasks c.args.turns c.args.a.now) (tasks_do p n (again_tasks c.args.turns c.args.a.now)) c.requires c.in_ok-again.ensures (λ m i. refl)
