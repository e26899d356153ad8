use Rattle.c_interp_def.proofs.StmtLaws.{groups-expand}
use Rattle.c_typed.specs.StmtViews.{groups_of}
use Rattle.c_interp_def.specs.StmtTasks as stmt
use Rattle.c_interp_def.specs.StmtTasks.{stmt_task_run}
use Rattle.c_interp.specs.Machines.{config_of}
use Rattle.c_interp.proofs.Steps.{put_step}
use Rattle.c_interp.proofs.part.run_groups.Goals as goal

pub returns : goal.returns
returns c = λ p n. put_step p n _ c.args.machine.now c.run_groups.new.tasks _ (stmt_task_run p n (stmt.run_groups (groups_of c.args.gs.now))) c.requires c.in_ok-run_groups.ensures (λ m i. groups-expand p n (groups_of c.args.gs.now) (config_of c.args.machine.now m i))
