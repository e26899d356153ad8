use Rattle.std.proofs.Common.{inr}
use Rattle.c_interp.proofs.CallSteps.{not_entered}
use Rattle.c_interp.proofs.calls.begin_call.Goals as goal

pub returns-in-Ok : goal.returns-in-Ok
returns-in-Ok c = inr (c.enter.new.machine, c.in-Ok.ensures, c.run_body.ensures)

pub returns-in-Err : goal.returns-in-Err
returns-in-Err c = not_entered c.args.program.now.typed.now c.args.program.now.bound c.args.active c.args.f.now c.in-Err.stop c.args.machine.now c.enter.new.machine c.enter.new.machine c.in-Err.ensures

pub run_body-requires-clause-normal : goal.run_body-requires-clause-normal
run_body-requires-clause-normal c = c.in-Ok.ensures.flow
