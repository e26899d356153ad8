use Rattle.c_interp.proofs.BaseSteps.{written_step, not_written_step}
use Rattle.c_interp.proofs.operands.write_value.Goals as goal

pub returns-then-store : goal.returns-then-store
returns-then-store c = λ p n. written_step p n c.args.machine.now c.store.new.self c.access_width.result c.args.t.now c.args.at c.args.v c.store.result c.access_width.ensures c.store.ensures c.give_value.result c.give_value.new.machine c.args.given c.unwrap_or.result c.if-store.true c.unwrap_or.ensures (c.give_value.ensures p n)

pub returns-else-store : goal.returns-else-store
returns-else-store c = λ p n. not_written_step p n c.args.machine.now c.store.new.self c.access_width.result c.args.t.now c.args.at c.args.v c.store.result c.access_width.ensures c.store.ensures c.args.machine.now c.args.given c.if-store.false
