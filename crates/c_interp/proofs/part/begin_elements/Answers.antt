use Rattle.c_interp_def.proofs.StmtLaws.{elements-expand}
use Rattle.c_typed.specs.StmtViews.{elements_of}
use Rattle.c_interp_def.specs.StmtTasks as stmt
use Rattle.c_interp_def.specs.StmtTasks.{stmt_task_run}
use Rattle.c_interp.specs.Machines.{config_of}
use Rattle.c_interp.proofs.Steps.{put_step}
use Rattle.c_interp.proofs.part.begin_elements.Goals as goal

pub returns : goal.returns
returns c = λ p n. put_step p n _ c.args.machine.now c.begin_elements.new.tasks _ (stmt_task_run p n (stmt.begin_elements c.args.number (elements_of c.args.es.now))) c.requires c.in_ok-begin_elements.ensures (λ m i. elements-expand p n c.args.number (elements_of c.args.es.now) (config_of c.args.machine.now m i))
