use Rattle.c_interp.proofs.StmtSteps.{local_step}
use Rattle.c_interp.proofs.variable.local_at.Goals as goal

pub returns : goal.returns
returns c = λ n. local_step c.args.program.now.typed.now n c.give.result c.args.machine.now c.give.new.machine c.args.slot c.slot_address-address.result c.slot_address-address.ensures (c.give.ensures c.args.program.now.typed.now n)
