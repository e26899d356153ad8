use Rattle.std.proofs.Common.{ap}
use Rattle.std.specs.Prelude.{Some}
use Rattle.c_interp.specs.Machines.{config_of}
use Rattle.c_interp.specs.Steps.{write_run}
use Rattle.c_interp.proofs.Steps.{undefined_step, same_step}
use Rattle.c_interp.proofs.operands.write.Goals as goal

pub returns-in-Some : goal.returns-in-Some
returns-in-Some c = λ p n. same_step p n c.write_value.result c.args.machine.now c.write_value.new.machine (write_run c.args.t.now c.args.at c.args.v c.args.given) (write_run c.args.t.now c.args.at (Some c.in-Some.v) c.args.given) (λ m i held. ap (λ o. write_run c.args.t.now c.args.at o c.args.given (config_of c.args.machine.now m i)) c.in-Some.is) (c.write_value.ensures p n)

pub returns-in-None : goal.returns-in-None
returns-in-None c = λ p n. undefined_step p n c.args.machine.now c.args.machine.now (write_run c.args.t.now c.args.at c.args.v c.args.given) (λ m i held. ap (λ o. write_run c.args.t.now c.args.at o c.args.given (config_of c.args.machine.now m i)) c.in-None.is)
