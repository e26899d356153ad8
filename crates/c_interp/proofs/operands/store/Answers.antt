use Rattle.std.proofs.Common.{ap}
use Rattle.std.specs.Prelude.{Some}
use Rattle.c_interp.specs.Machines.{config_of}
use Rattle.c_interp.specs.Steps.{store_run}
use Rattle.c_interp.proofs.Steps.{undefined_step, same_step}
use Rattle.c_interp.proofs.operands.store.Goals as goal

pub returns-in-Some : goal.returns-in-Some
returns-in-Some c = λ p n. same_step p n c.store_value.result c.args.machine.now c.store_value.new.machine (store_run c.args.t.now c.args.at c.args.v) (store_run c.args.t.now c.args.at (Some c.in-Some.v)) (λ m i held. ap (λ o. store_run c.args.t.now c.args.at o (config_of c.args.machine.now m i)) c.in-Some.is) (c.store_value.ensures p n)

pub returns-in-None : goal.returns-in-None
returns-in-None c = λ p n. undefined_step p n c.args.machine.now c.args.machine.now (store_run c.args.t.now c.args.at c.args.v) (λ m i held. ap (λ o. store_run c.args.t.now c.args.at o (config_of c.args.machine.now m i)) c.in-None.is)
