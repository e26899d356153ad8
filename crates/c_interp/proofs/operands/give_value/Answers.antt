use Rattle.c_interp.proofs.BaseSteps.{given_step}
use Rattle.c_interp.proofs.operands.give_value.Goals as goal

pub returns : goal.returns
returns c = λ p n. given_step p n _ c.args.machine.now c.push.new.self c.args.v c.requires c.in_ok-push.ensures.items
