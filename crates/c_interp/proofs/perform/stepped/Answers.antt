use Rattle.std.proofs.Common.{refl}
use Rattle.std.specs.Prelude.{None, Some}
use Rattle.c_interp.proofs.Performed.{stepped_moved, not_stepped, none_stepped}
use Rattle.c_interp.proofs.perform.stepped.Goals as goal

pub returns-in_default-slot_value : goal.returns-in_default-slot_value
returns-in_default-slot_value c = λ q n.
    none_stepped q n c.args.machine.now c.args.t.now c.args.p.now c.args.step c.args.machine.now c.in-Some.k c.in-Some.ensures c.in_default-slot_value.ensures

pub returns-in_default-incremented : goal.returns-in_default-incremented
returns-in_default-incremented c = λ q n.
    not_stepped q n c.args.machine.now c.args.t.now c.args.p.now c.args.step c.args.machine.now c.in-Some.k c.in-Some-slot_value.old None c.in-Some.ensures c.in-Some-slot_value.ensures refl
    (λ calls s h. c.in_default-incremented.ensures calls s h)

pub returns : goal.returns
returns c = λ q n.
    stepped_moved q n c.args.machine.now c.args.t.now c.args.p.now c.args.step c.set_slot.new.slots c.in-Some.k c.in-Some-slot_value.old c.in-Some-incremented.w (Some c.in-Some-incremented.w) c.requires c.in-Some.ensures
    c.in-Some-slot_value.ensures refl (λ calls s h. c.in-Some-incremented.ensures calls s h) c.set_slot.ensures
