use Rattle.std.proofs.Common.{refl, ap}
use Rattle.std.specs.Prelude.{Ok}
use Rattle.c_mean.specs.Statements.{broke}
use Rattle.c_interp_def.specs.declared.task.Flow.TheVariants.{Normal}
use Rattle.c_interp_answer.specs.TaskViews.{flow_of}
use Rattle.c_interp_def.specs.StmtTasks as stmt
use Rattle.c_interp_def.specs.StmtTasks.{handler_run}
use Rattle.c_interp.specs.Machines.{config_of}
use Rattle.c_interp.proofs.Ports.{stays_step}
use Rattle.c_interp.proofs.StmtSteps.{with_flow, flow_step, switch-stays}
use Rattle.c_interp.proofs.Steps.{same_step}
use Rattle.c_interp.proofs.turns.end_switch.Goals as goal

pub returns-in-Broke : goal.returns-in-Broke
returns-in-Broke c = λ p n. same_step p n (Ok tt) c.args.machine.now (with_flow c.args.machine.now Normal) (handler_run p n stmt.end_switch (flow_of c.args.machine.now.flow)) (handler_run p n stmt.end_switch broke) (λ m i held. ap (λ f. handler_run p n stmt.end_switch (flow_of f) (config_of c.args.machine.now m i)) c.in-Broke.is)
    (flow_step p n _ c.args.machine.now Normal (handler_run p n stmt.end_switch broke) (λ x. refl))

pub returns-in_default : goal.returns-in_default
returns-in_default c = λ p n. stays_step p n _ c.args.machine.now (handler_run p n stmt.end_switch (flow_of c.args.machine.now.flow)) (λ x. switch-stays p n c.args.machine.now.flow x c.in_default.not-Broke)
