use Rattle.c_interp.proofs.Performed.{assigned_moved, not_assigned}
use Rattle.c_interp.proofs.perform.assigned_slot.Goals as goal

pub returns-in_default-used : goal.returns-in_default-used
returns-in_default-used c = λ n.
    not_assigned c.args.program.now.typed.now n c.args.machine.now c.args.t.now c.args.p.now c.args.a.now c.args.machine.now c.args.k c.in-Some.v c.requires.at (c.in-Some.ensures n) c.in_default-used.ensures

pub returns : goal.returns
returns c = λ n.
    assigned_moved c.args.program.now.typed.now n c.args.machine.now c.args.t.now c.args.p.now c.args.a.now c.set_slot.new.slots c.args.k c.in-Some.v c.in-Some-used.w c.requires.normal c.requires.at
    (c.in-Some.ensures n) c.in-Some-used.ensures c.set_slot.ensures
