use Rattle.c_interp.proofs.BaseSteps.{stored_step, not_stored_step}
use Rattle.c_interp.proofs.operands.store_value.Goals as goal

pub returns-then-store : goal.returns-then-store
returns-then-store c = λ p n. stored_step p n c.args.machine.now c.store.new.self c.access_width.result c.args.t.now c.args.at c.args.v c.store.result c.access_width.ensures c.store.ensures _ c.requires c.if-store.true

pub returns-else-store : goal.returns-else-store
returns-else-store c = λ p n. not_stored_step p n c.args.machine.now c.store.new.self c.access_width.result c.args.t.now c.args.at c.args.v c.store.result c.access_width.ensures c.store.ensures c.args.machine.now c.if-store.false
