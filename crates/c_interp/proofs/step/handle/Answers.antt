use Rattle.c_interp.proofs.Dispatch.{handler_as}
use Rattle.c_interp.proofs.step.handle.Goals as goal

pub returns-in-EndSwitch : goal.returns-in-EndSwitch
returns-in-EndSwitch c = handler_as c.args.program.now.typed.now c.args.program.now.bound c.end_switch.result c.args.machine.now c.end_switch.new.machine c.args.handler _ c.in-EndSwitch.is (c.end_switch.ensures c.args.program.now.typed.now c.args.program.now.bound)

pub returns-in-Again : goal.returns-in-Again
returns-in-Again c = handler_as c.args.program.now.typed.now c.args.program.now.bound c.again.result c.args.machine.now c.again.new.machine c.args.handler _ c.in-Again.is c.again.ensures

pub returns-in-EndScope : goal.returns-in-EndScope
returns-in-EndScope c = handler_as c.args.program.now.typed.now c.args.program.now.bound c.end_scope.result c.args.machine.now c.end_scope.new.machine c.args.handler _ c.in-EndScope.is (c.end_scope.ensures c.args.program.now.typed.now c.args.program.now.bound)

pub returns-in-EndCall : goal.returns-in-EndCall
returns-in-EndCall c = handler_as c.args.program.now.typed.now c.args.program.now.bound c.end_call.result c.args.machine.now c.end_call.new.machine c.args.handler _ c.in-EndCall.is (c.end_call.ensures c.args.program.now.bound)
