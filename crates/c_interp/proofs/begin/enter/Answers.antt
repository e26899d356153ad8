use Rattle.c_interp.proofs.StmtSteps.{enter_step, not_entered_step}
use Rattle.c_interp.proofs.begin.enter.Goals as goal

pub returns-in_default : goal.returns-in_default
returns-in_default c = λ n. not_entered_step c.args.program.now.typed.now n c.args.machine.now c.args.machine.now c.args.variable c.in_default.ensures

pub returns : goal.returns
returns c = λ n. enter_step c.args.program.now.typed.now n _ c.args.machine.now c.push.new.self c.args.variable c.in-Some.slot c.requires.normal c.in_ok-push.ensures.items c.in-Some.ensures
