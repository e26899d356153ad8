use Rattle.c_interp.proofs.Steps.{with_store}
use Rattle.c_interp.proofs.Performed.{stored_moved, not_stored, none_stored}
use Rattle.c_interp.proofs.perform.stored.Goals as goal

pub returns-in_default-used : goal.returns-in_default-used
returns-in_default-used c = λ n.
    none_stored c.args.program.now.typed.now n c.args.machine.now c.args.t.now c.args.p.now c.args.a.now c.args.machine.now c.in-Some.at c.in-Some-known.v (c.in-Some.ensures n) (c.in-Some-known.ensures n) c.in_default-used.ensures

pub returns-then-store : goal.returns-then-store
returns-then-store c = λ n.
    stored_moved c.args.program.now.typed.now n c.args.machine.now c.args.t.now c.args.p.now c.args.a.now c.store.new.self c.in-Some.at c.in-Some-known.v c.in-Some-used.w _ c.store.result c.requires.normal
    (c.in-Some.ensures n) (c.in-Some-known.ensures n) c.in-Some-used.ensures c.access_width.ensures c.if-store.true (λ calls m h. c.store.ensures calls m h)

pub returns-else-store : goal.returns-else-store
returns-else-store c = λ n.
    not_stored c.args.program.now.typed.now n c.args.machine.now c.args.t.now c.args.p.now c.args.a.now (with_store c.args.machine.now c.store.new.self) c.store.new.self c.in-Some.at c.in-Some-known.v c.in-Some-used.w _ c.store.result
    (c.in-Some.ensures n) (c.in-Some-known.ensures n) c.in-Some-used.ensures c.access_width.ensures c.if-store.false (λ calls m h. c.store.ensures calls m h)
