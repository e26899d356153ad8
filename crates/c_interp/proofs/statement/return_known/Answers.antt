use Rattle.std.proofs.Common.{sym, ap}
use Rattle.val_core.specs.Answers.{on_defined}
use Rattle.std.specs.Prelude.{Some}
use Rattle.c_mean.specs.Statements.{returned}
use Rattle.c_interp_def.specs.Configurations.{reaches}
use Rattle.c_interp.specs.Machines.{config_of}
use Rattle.c_interp.specs.Steps.{return_run}
use Rattle.c_interp.proofs.Steps.{undefined_step}
use Rattle.c_interp.proofs.AtOnce.{returned_step}
use Rattle.c_interp.proofs.statement.return_known.Goals as goal

pub returns-in_default : goal.returns-in_default
returns-in_default c = λ p n. undefined_step p n c.args.machine.now c.args.machine.now (return_run c.args.v)
    (λ m i held. ap (λ o. on_defined o (λ w. reaches (returned (Some w)) (config_of c.args.machine.now m i))) (sym c.in_default.ensures))

pub returns : goal.returns
returns c = λ p n. returned_step p n _ c.args.machine.now c.args.v c.in-Some.w (sym c.in-Some.ensures)
