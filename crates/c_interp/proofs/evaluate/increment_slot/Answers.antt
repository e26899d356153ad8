use Rattle.std.specs.Prelude.{Err}
use Rattle.c_interp.specs.declared.stop.Stop.TheVariants.{Undefined}
use Rattle.c_interp.proofs.Unknown.{slot_stepped, not_read}
use Rattle.c_interp.proofs.evaluate.increment_slot.Goals as goal

pub returns-in_default : goal.returns-in_default
returns-in_default c = λ q n.
    not_read q n (Err Undefined) c.args.machine.now c.args.machine.now c.args.t.now c.args.step c.args.p.now c.args.k c.requires.at c.in_default.ensures

pub returns : goal.returns
returns c = λ q n.
    slot_stepped q n c.step_slot.result c.args.machine.now c.step_slot.new.machine c.args.t.now c.args.step c.args.p.now c.args.k c.push.new.self c.in-Some.old c.requires.at
    c.in-Some.ensures c.in_ok-push.ensures.items (c.step_slot.ensures q n)
