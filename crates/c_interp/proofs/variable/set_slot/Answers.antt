use Rattle.std.proofs.lemmas.List.{map-set}
use Rattle.c_interp_def.specs.declared.task.Slot.TheVariants.{Holds}
use Rattle.c_interp_answer.specs.TaskViews.{slot_of}
use Rattle.c_interp.proofs.variable.set_slot.Goals as goal

pub returns-then-slot-len : goal.returns-then-slot-len
returns-then-slot-len c = map-set slot_of c.args.slots.now.items c.args.slot (Holds c.args.value)
