use Rattle.c_interp.proofs.Unknown.{step_put}
use Rattle.c_interp.proofs.evaluate.increment_more.Goals as goal

pub returns-in-Some : goal.returns-in-Some
returns-in-Some c = λ n. c.increment_slot.ensures c.args.program.now.typed.now n

pub returns-in-None : goal.returns-in-None
returns-in-None c = λ n.
    step_put c.args.program.now.typed.now n c.increment_at.result c.args.machine.now c.increment_at.new.machine c.args.t.now c.args.step c.args.p.now c.in-None.ensures (c.increment_at.ensures n)
